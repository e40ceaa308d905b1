-- What a run wrote to its depot (this project's own).
use Rattle.std.specs.Prelude.{◌≡◌, ◌⊎◌, ◌++◌, List, Option, option_map, Ok, Err}
use Rattle.ss_base.specs.declared.profile.Numbers.{Numbers}
use Rattle.outside.specs.Shelf.{Written}
use Rattle.outside.specs.Views.{ShelfView}
use Rattle.journal_entry.specs.declared.entry.Entry.{Entry}
use Rattle.journal_file.specs.Adding.{with_write}
use Rattle.stored_streams.specs.Streams.{Streams}
use Rattle.stored_streams.specs.Reads.{Reads, IsGiven}
use Rattle.stored_streams.specs.Collision.{Collide}
use Rattle.backed_up_streams.specs.Wrote.{AreWritesOf}
use Rattle.store_run.specs.JobRun.{Kept}

-- the told writes, and the one with which entries were kept, if they were
abbrev pub with_kept : Option (List Written) → List Entry → Kept → Option (List Written)
with_kept told entries (Ok done) = with_write told entries
with_kept told entries (Err fault) = told

-- the told writes, those of a job, and then the one with which its entries were kept
abbrev pub with_run : Option (List Written) → List Written → List Entry → Kept → Option (List Written)
with_run told writes entries kept = with_kept (option_map (λ wrote. wrote ++ writes) told) entries kept

-- What a run of a backup wrote, where its depot tells it: the writes of the entries that were added, or there is a
-- collision among what was hashed, and these reads can have given; and then these entries, where they were kept. It
-- erased nothing.
pub record RunWrites (n : Numbers) (streams : Streams) (reads : List Reads) (older past : List Entry) (entries : List Entry) (kept : Kept) (before after : ShelfView) : Type 0 where
  pub writes : List Written
  pub wrote : after.wrote ≡ with_run before.wrote writes entries kept
  pub erased : after.erased ≡ before.erased
  pub are : AreWritesOf n streams older past writes ⊎ Collide n streams past (IsGiven reads past)
