use Rattle.std.proofs.Common.{take, reverse}
use Rattle.history_counts.specs.InStep.{Agrees, HasHolds, times}
use Rattle.history_counts.proofs.holds.pin_all.Given as goal

abbrev pub invariant-loop-n : goal.invariant-loop-n
invariant-loop-n l = Agrees l.counts (reverse l.before) × HasHolds (times (take l.n-index l.numbers) (reverse l.before)) l.fn.counts l.counts
