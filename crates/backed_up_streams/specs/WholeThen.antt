-- A depot that is whole for a history of some streams (this project's own).
use Rattle.std.specs.Prelude.{ℕ, ◌≡◌, List, Some}
use Rattle.ss_base.specs.declared.profile.Numbers.{Numbers}
use Rattle.outside.specs.Shelf.{Objects, bytes_of}
use Rattle.outside.specs.Views.{ShelfView}
use Rattle.journal_entry.specs.declared.entry.Entry.{Entry}
use Rattle.stored_streams.specs.Streams.{Streams}
use Rattle.stored_streams.specs.OfStreams.{IsOfStreams}
use Rattle.stored_streams.specs.Whole.{IsWhole}
use Rattle.whole_objects.specs.Keeps.{IsNoObject}

-- The history is one of the streams, and the depot tells objects that are whole for it. What is no container and no
-- manifest, the journal above all, is as it was before.
pub record IsWholeThen (n : Numbers) (streams : Streams) (past : List Entry) (before : Objects) (depot : ShelfView) : Type 0 where
  pub now : Objects
  pub held_is : depot.held ≡ Some now
  pub of_streams : IsOfStreams n streams past
  pub whole : IsWhole n streams past now
  pub others : (name : List ℕ) → IsNoObject name → bytes_of now name ≡ bytes_of before name
