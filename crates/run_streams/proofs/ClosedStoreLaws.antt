-- Runs leave a whole store whole, with nothing unfinished.
use Rattle.std.proofs.Common.{◌≡◌, [], Some, refl}
use Rattle.ss_base.specs.declared.profile.Profile.{Profile}
use Rattle.outside.specs.Shelf.{Objects, bytes_of}
use Rattle.outside.specs.Views.{ShelfView}
use Rattle.history.specs.Sessions.{has, is_unfinished, is_reading}
use Rattle.journal_file.specs.Header.{journal_name}
use Rattle.journal_file.specs.Journal.{journal_text}
use Rattle.store_core.specs.View.{StateView}
use Rattle.restore.specs.Copies.{Shelves}
use Rattle.stored_streams.specs.Streams.{Streams}
use Rattle.store_run.specs.Opening.{store_of}
use Rattle.run_streams.specs.Ends.{IsClosedStore}
use Rattle.run_streams.specs.WholeStores.{KeepsStore, KeepStore}
use Rattle.run_streams.specs.WholeStores.KeepsStore.{job_done, only_read}
use Rattle.run_streams.specs.WholeStores.KeepStore.{no_run, one_more}
use Rattle.run_streams.proofs.ClosedLaws.{closed_run}
use Rattle.run_streams.proofs.WholeRunLaws.{done_keeps_store, read_keeps_store, first_store}

run_keeps_closed : (streams : Streams) (before after : Shelves) (store : StateView) → KeepsStore streams before after → IsClosedStore streams before.depot store → (new : StateView) × IsClosedStore streams after.depot new
run_keeps_closed streams before after store (only_read same) is =
    (store, record { whole = read_keeps_store streams before.depot after.depot store same is.whole; no_session = is.no_session; no_reading = is.no_reading })
run_keeps_closed streams before after store (job_done kind sink sink' status done kept input_is) is =
    let closed = closed_run kind before after sink sink' status done in
    (done.new, record { whole = done_keeps_store kind streams before after store sink sink' status done kept input_is is.whole; no_session = closed.0; no_reading = closed.1 })

pub runs_keep_closed : (streams : Streams) (before after : Shelves) (store : StateView) → KeepStore streams before after → IsClosedStore streams before.depot store → (new : StateView) × IsClosedStore streams after.depot new
runs_keep_closed streams before after store no_run is = (store, is)
runs_keep_closed streams before after store (one_more between now runs run) is =
    let earlier = runs_keep_closed streams before between store runs is in
    run_keeps_closed streams between now earlier.0 run earlier.1

-- a store without entries
pub first_closed : (streams : Streams) (depot : ShelfView) (objects : Objects) (profile : Profile) → depot.held ≡ Some objects → bytes_of objects journal_name ≡ journal_text profile [] → IsClosedStore streams depot (store_of profile [])
unfolding is_unfinished is_reading has
first_closed streams depot objects profile told text = record { whole = first_store streams depot objects profile told text; no_session = λ session. refl; no_reading = λ reader. refl }
