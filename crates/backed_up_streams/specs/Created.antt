-- Objects that a backup makes (this project's own).
use Rattle.std.specs.Prelude.{ℕ, ◌≡◌, ◌⊎◌, List, Some}
use Rattle.std.specs.FinMap as map
use Rattle.outside.specs.Shelf.{Objects}
use Rattle.outside.specs.Views.{ShelfView}
use Rattle.journal_entry.specs.declared.entry.Entry.{Entry}
use Rattle.stored_streams.specs.Known.{IsKnownName}

-- an object has this name
abbrev pub HasName : Objects → List ℕ → Type 0
HasName objects name = (bytes : List ℕ) × (map.get objects name ≡ Some bytes)

-- The depot tells its objects, each of which was there before, or is known by the history.
pub record CreatesKnown (past : List Entry) (before : Objects) (depot : ShelfView) : Type 0 where
  pub now : Objects
  pub held_is : depot.held ≡ Some now
  pub each : (name bytes : List ℕ) → map.get now name ≡ Some bytes → HasName before name ⊎ IsKnownName past name
