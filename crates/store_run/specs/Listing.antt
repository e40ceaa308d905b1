-- What a run of `journal` did (this project's own).
use Rattle.std.specs.Prelude.{◌≡◌, ℕ, [], Ok, Err}
use Rattle.outside.specs.Views.{SinkView, ShelfView, SinkFailed, Takes, TakesFront}
use Rattle.store_core.specs.View.{StateView}
use Rattle.store_run.specs.declared.stop.Stop.{Stop}
use Rattle.store_run.specs.EntryLines.{entry_lines}
use Rattle.store_run.specs.Opening.{Opens}
use Rattle.store_run.specs.Run.{Refuses}
use Rattle.store_run.specs.Stop.{sink_fault}

-- The store was opened, and the lines of all its entries were printed; or it was not opened, for a cause whose line
-- was printed; or a line could not be printed, for the sink failed or memory was wanted.
pub data JournalAnswer (depot depot' : ShelfView) (sink sink' : SinkView) (status : ℕ) : Type 0 where
  listed : (store : StateView) → status ≡ 0 → Opens depot depot' (Ok store) → Takes sink sink' (entry_lines 0 store.entries) → sink'.faults ≡ sink.faults
      → JournalAnswer depot depot' sink sink' status
  not_opened : (why : Stop) → Opens depot depot' (Err why) → Refuses why [] sink sink' status → JournalAnswer depot depot' sink sink' status
  line_failed : (store : StateView) → status ≡ sink_fault → Opens depot depot' (Ok store) → TakesFront sink sink' (entry_lines 0 store.entries) → SinkFailed sink sink'
      → JournalAnswer depot depot' sink sink' status
  line_wanted_memory : (store : StateView) → status ≡ 8 → Opens depot depot' (Ok store) → TakesFront sink sink' (entry_lines 0 store.entries) → sink'.faults ≡ sink.faults
      → JournalAnswer depot depot' sink sink' status
