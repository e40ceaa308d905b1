use Rattle.std.proofs.Common.{◌≡◌, ℕ, Some, All}
use Rattle.turn_lock.specs.Passes.{PassView}
use Rattle.turn_lock.proofs.tests.split_off.Given as goal

abbrev pub invariant-loop : goal.invariant-loop
invariant-loop l = (l.opener.turns ≡ l.turns) × ((n : ℕ) × (l.opener.next ≡ Some n)) × All (λ (p : PassView). p.turns ≡ l.turns) l.passes.items
