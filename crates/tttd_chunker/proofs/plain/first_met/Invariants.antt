use Rattle.std.proofs.Common.{◌≡◌, ◌<◌, ◌≤◌, ℕ, false}
use Rattle.tttd_chunker.specs.Cut.{meets}
use Rattle.tttd_chunker.proofs.plain.first_met.Given as goal

abbrev pub invariant-loop-k : goal.invariant-loop-k
invariant-loop-k l = (j : ℕ) → l.low ≤ j → j < l.k → meets l.divisor l.rest j ≡ false
