use Rattle.std.proofs.Common.{◌≡◌, ◌-◌, length}
use Rattle.depot.specs.Seen.{shelf_of, seen}
use Rattle.job_run.specs.Erasing.{HasReclaimed}
use Rattle.job_run.proofs.reclaiming.reclaim_all.Given as goal

abbrev pub invariant-loop-removals : goal.invariant-loop-removals
invariant-loop-removals g l = record {
  same_reference : (shelf_of l.depot).ghost_name ≡ (shelf_of l.initial.depot).ghost_name;
  earlier : HasReclaimed l.author l.initial.state (seen g.K.Shelf l.initial.depot) l.state (seen g.K.Shelf l.depot);
}

abbrev pub decreases-loop-removals : goal.decreases-loop-removals
decreases-loop-removals g l = l.state.limits.entries - length l.state.entries
