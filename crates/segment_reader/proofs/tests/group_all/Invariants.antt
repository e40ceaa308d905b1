use Rattle.std.proofs.Common.{◌≡◌}
use Rattle.segment_reader.proofs.tests.group_all.Given as goal

abbrev pub invariant-loop-chunk : goal.invariant-loop-chunk
invariant-loop-chunk l = l.segmenter.numbers.tmax ≡ 256
