-- Objects that a run makes (this project's own).
use Rattle.std.specs.Prelude.{ℕ, ◌≡◌, ◌⊎◌, List, Some}
use Rattle.std.specs.FinMap as map
use Rattle.outside.specs.Shelf.{Objects}
use Rattle.outside.specs.Views.{ShelfView}
use Rattle.journal_entry.specs.declared.entry.Entry.{Entry}
use Rattle.journal_file.specs.Header.{journal_name}
use Rattle.stored_streams.specs.Known.{IsKnownName}
use Rattle.backed_up_streams.specs.Created.{HasName}

-- The depot tells its objects, each of which was there before, or is the journal, or is known by the history.
pub record MakesKnown (past : List Entry) (before : Objects) (depot : ShelfView) : Type 0 where
  pub now : Objects
  pub held_is : depot.held ≡ Some now
  pub each : (name bytes : List ℕ) → map.get now name ≡ Some bytes → HasName before name ⊎ ((name ≡ journal_name) ⊎ IsKnownName past name)
