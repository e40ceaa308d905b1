-- What a run leaves whose entries were not kept (this project's own).
use Rattle.std.specs.Prelude.{ℕ, ◌≡◌, true, List, ◌++◌, Some}
use Rattle.ss_base.specs.declared.ids.ManifestId.{ManifestId}
use Rattle.ss_base.specs.declared.object.Object.TheVariants.{Manifest}
use Rattle.ss_base.specs.declared.profile.Numbers.{Numbers}
use Rattle.ss_base.specs.ObjectName.{object_text}
use Rattle.outside.specs.Shelf.{Objects, bytes_of}
use Rattle.outside.specs.Views.{ShelfView}
use Rattle.journal_entry.specs.declared.entry.Entry.{Entry}
use Rattle.journal_entry.specs.EntryText.{entries_text}
use Rattle.history.specs.Need.{is_live}
use Rattle.journal_file.specs.Header.{journal_name}
use Rattle.stored_streams.specs.Streams.{Streams}
use Rattle.stored_streams.specs.Plans.{planned_places, plans_of}
use Rattle.stored_streams.specs.Whole.{IsManifestWhole, IsWhole}

-- A manifest is whole for a history that went on: its object has the bytes that it had, its places are those that it
-- had, and at each of them lies a chunk with the piece there.
pub record IsStillWhole (n : Numbers) (streams : Streams) (older past : List Entry) (before now : Objects) (id : ManifestId) : Type 0 where
  pub whole : IsManifestWhole n streams past now id
  pub text : bytes_of now (object_text (Manifest id)) ≡ bytes_of before (object_text (Manifest id))
  pub places : planned_places id (plans_of n streams past) ≡ planned_places id (plans_of n streams older)

-- The depot tells objects. Each manifest that is live in the older history and in the one with the new entries is still
-- whole, and the objects are whole for the latter. Behind the journal stands a front of the texts of the new entries.
pub record KeepsLive (n : Numbers) (streams : Streams) (older past new : List Entry) (before : Objects) (depot : ShelfView) : Type 0 where
  pub now : Objects
  pub held_is : depot.held ≡ Some now
  pub live : (id : ManifestId) → is_live id older ≡ true → is_live id past ≡ true → IsStillWhole n streams older past before now id
  pub whole : IsWhole n streams past now
  pub front : List ℕ
  pub back : List ℕ
  pub texts : entries_text new ≡ front ++ back
  pub journal : bytes_of now journal_name ≡ bytes_of before journal_name ++ front
