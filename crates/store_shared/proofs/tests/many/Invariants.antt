use Rattle.std.proofs.Common.{◌≡◌}
use Rattle.store_shared.proofs.tests.many.Given as goal

abbrev pub invariant-loop : goal.invariant-loop
invariant-loop g l = l.pass.turns ≡ l.store
