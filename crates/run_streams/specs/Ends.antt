-- How runs end where nothing keeps them off (this project's own).
use Rattle.std.specs.Prelude.{ℕ, ◌≡◌, None, Ok}
use Rattle.outside.specs.Shelf.{Objects}
use Rattle.outside.specs.Views.{ShelfView, SinkView}
use Rattle.store_core.specs.Replay.{NoneIs, has_session, has_reading}
use Rattle.store_core.specs.View.{StateView, past_of, author_after}
use Rattle.restore.specs.Copies.{Shelves}
use Rattle.stored_streams.specs.Streams.{Streams}
use Rattle.job_script.specs.declared.job.JobKind.{JobKind}
use Rattle.report.specs.Status.{answer_status}
use Rattle.store_run.specs.JobRun.{HasDoneJob}
use Rattle.run_streams.specs.Answered.{IsDue}
use Rattle.run_streams.specs.WholeStores.{IsWholeStore}

-- a whole store in which no session and no reading is unfinished
pub record IsClosedStore (streams : Streams) (depot : ShelfView) (store : StateView) : Type 0 where
  pub whole : IsWholeStore streams depot store
  pub no_session : NoneIs (has_session store)
  pub no_reading : NoneIs (has_reading store)

-- A run of a job did it, with an answer that is due: its entries were kept and its report was printed, and the status is
-- the answer's. Or no author's number is left, or memory was wanted.
pub data EndsDuly (kind : JobKind) (store : StateView) (files : Objects) (before after : Shelves) (sink sink' : SinkView) (status : ℕ) : Type 0 where
  job_done : (done : HasDoneJob kind before after sink sink' status) → IsDue store done.new files done.answer kind
      → done.ending.kept ≡ Ok tt → done.ending.printed ≡ Ok tt → status ≡ answer_status done.answer
      → EndsDuly kind store files before after sink sink' status
  no_author : author_after (past_of store) ≡ None → status ≡ 7 → EndsDuly kind store files before after sink sink' status
  memory_wanted : status ≡ 8 → EndsDuly kind store files before after sink sink' status
