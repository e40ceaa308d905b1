use Rattle.std.proofs.Common.{◌≡◌}
use Rattle.turn_lock.proofs.tests.many.Given as goal

abbrev pub invariant-loop-ordinal : goal.invariant-loop-ordinal
invariant-loop-ordinal g l = l.pass.turns ≡ l.initial.pass.turns
