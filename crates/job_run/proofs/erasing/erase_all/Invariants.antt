use Rattle.std.proofs.Common.{◌≡◌}
use Rattle.depot.specs.Seen.{shelf_of, seen}
use Rattle.job_run.specs.Erasing.{AreErased}
use Rattle.job_run.proofs.erasing.erase_all.Given as goal

abbrev pub invariant-loop-removal : goal.invariant-loop-removal
invariant-loop-removal g l = record {
  same_reference : (shelf_of l.depot).ghost_name ≡ (shelf_of l.initial.depot).ghost_name;
  erased : AreErased (seen g.K.Shelf l.initial.depot) (seen g.K.Shelf l.depot) l.yielded l.met;
}
