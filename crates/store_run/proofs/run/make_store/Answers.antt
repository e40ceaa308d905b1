use Rattle.std.proofs.Common.{refl}
use Rattle.outside.specs.Views.{shelf_view}
use Rattle.store_run.specs.declared.stop.Stop.TheVariants.{AlreadyStore, DepotFault, Memory}
use Rattle.store_run.specs.Run.{not_made}
use Rattle.store_run.proofs.StoreLaws.{same_view}
use Rattle.store_run.proofs.run.make_store.Goals as goal

pub returns-in-Err-AlreadyStore : goal.returns-in-Err-AlreadyStore
returns-in-Err-AlreadyStore g c =
    let create = rw c.in-Err-AlreadyStore.field-0-is at c.in-Err-AlreadyStore.ensures in
    record {
      answer = not_made AlreadyStore (create.already refl, same_view (shelf_view g.K.Shelf c.create.new.shelf) (shelf_view g.K.Shelf c.args.depot.now) (create.untouched refl) create.gave create.wrote create.erased create.reads create.count) c.refuse.ensures;
    }

pub returns-in-Err-Shelf : goal.returns-in-Err-Shelf
returns-in-Err-Shelf g c =
    let create = rw c.in-Err-Shelf.field-0-is at c.in-Err-Shelf.ensures in
    let before = shelf_view g.K.Shelf c.args.depot.now in
    let after = shelf_view g.K.Shelf c.create.new.shelf in
    record {
      answer = not_made DepotFault (
        record { leaves = create.held; untouched = create.there; others = same_view after (record before { held = after.held; faults = after.faults }) refl create.gave create.wrote create.erased create.reads refl },
        create.count,
      ) c.refuse-in-Err-Shelf.ensures;
    }

pub returns-in-Err-Memory : goal.returns-in-Err-Memory
returns-in-Err-Memory g c =
    let create = rw c.in-Err-Memory.field-0-is at c.in-Err-Memory.ensures in
    let before = shelf_view g.K.Shelf c.args.depot.now in
    let after = shelf_view g.K.Shelf c.create.new.shelf in
    record {
      answer = not_made Memory (
        record { leaves = create.held; untouched = create.there; others = same_view after (record before { held = after.held; faults = after.faults }) refl create.gave create.wrote create.erased create.reads refl },
        create.count,
      ) c.refuse-in-Err-Memory.ensures;
    }
