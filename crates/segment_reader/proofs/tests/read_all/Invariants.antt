use Rattle.std.proofs.Common.{◌≡◌, false}
use Rattle.segment_reader.specs.Answer.{may_come}
use Rattle.segment_reader.proofs.tests.read_all.Given as goal

abbrev pub invariant-loop-segments : goal.invariant-loop-segments
invariant-loop-segments g l = l.work.spent ≡ false

abbrev pub decreases-loop-segments : goal.decreases-loop-segments
decreases-loop-segments g l = may_come l.work
