use Rattle.std.proofs.Common.{◌≡◌, All}
use Rattle.turn_lock.specs.Passes.{PassView}
use Rattle.turn_lock.proofs.tests.joined.Given as goal

abbrev pub invariant-loop-pass : goal.invariant-loop-pass
invariant-loop-pass l = (l.all.turns ≡ l.turns) × All (λ (p : PassView). p.turns ≡ l.turns) l.passes.items

abbrev pub decreases-loop-pass : goal.decreases-loop-pass
decreases-loop-pass l = goal.left-loop-pass l
