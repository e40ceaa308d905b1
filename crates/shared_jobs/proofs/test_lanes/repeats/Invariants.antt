use Rattle.std.proofs.Common.{◌≡◌}
use Rattle.shared_jobs.proofs.test_lanes.repeats.Given as goal

abbrev pub invariant-loop : goal.invariant-loop
invariant-loop g l = l.pass.turns ≡ l.store
