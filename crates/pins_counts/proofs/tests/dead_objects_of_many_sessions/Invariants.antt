use Rattle.std.proofs.Common.{◌≡◌, length}
use Rattle.pins_counts.proofs.tests.dead_objects_of_many_sessions.Given as goal

abbrev pub invariant-loop-s : goal.invariant-loop-s
invariant-loop-s g l = length l.counts.sessions ≡ l.s
