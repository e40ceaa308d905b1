-- A store whose depot is whole, and runs of its jobs (this project's own).
use Rattle.std.specs.Prelude.{ℕ, ◌≡◌, Some, Ok}
use Rattle.ss_base.specs.Profile.{numbers_of}
use Rattle.outside.specs.Shelf.{Objects, bytes_of}
use Rattle.outside.specs.Views.{ShelfView, SinkView}
use Rattle.journal_file.specs.Header.{journal_name}
use Rattle.store_core.specs.View.{StateView, past_of}
use Rattle.restore.specs.Copies.{Shelves}
use Rattle.stored_streams.specs.Streams.{Streams}
use Rattle.stored_streams.specs.OfStreams.{IsOfStreams}
use Rattle.stored_streams.specs.Whole.{IsWhole}
use Rattle.job_script.specs.declared.job.JobKind.{JobKind}
use Rattle.store_run.specs.JobRun.{HasDoneJob}
use Rattle.store_run.specs.Opening.{IsLegal, IsJournalOf}
use Rattle.run_streams.specs.RunStreams.{HasInput}

-- The depot tells objects of which `journal` is the journal of a store. The store's history is legal and one of the
-- streams, and the objects are whole for it.
pub record IsWholeStore (streams : Streams) (depot : ShelfView) (store : StateView) : Type 0 where
  pub objects : Objects
  pub told : depot.held ≡ Some objects
  pub journal : IsJournalOf (bytes_of objects journal_name) store
  pub legal : IsLegal store
  pub of_streams : IsOfStreams (numbers_of store.profile) streams (past_of store)
  pub whole : IsWhole (numbers_of store.profile) streams (past_of store) objects

-- A run of a job kept its entries, and a backup's stream is its input's bytes; or no job was done.
pub data KeepsStore (streams : Streams) (before after : Shelves) : Type 0 where
  job_done : (kind : JobKind) (sink sink' : SinkView) (status : ℕ) (done : HasDoneJob kind before after sink sink' status)
      → done.ending.kept ≡ Ok tt
      → HasInput kind streams before.files (past_of done.store) (past_of done.new)
      → KeepsStore streams before after
  only_read : after.depot.held ≡ before.depot.held → KeepsStore streams before after

-- such runs, one behind another
pub data KeepStore (streams : Streams) (before : Shelves) : Shelves → Type 0 where
  no_run : KeepStore streams before before
  one_more : (between after : Shelves) → KeepStore streams before between → KeepsStore streams between after → KeepStore streams before after
