use Rattle.std.proofs.Common.{◌≡◌, length}
use Rattle.segment_reader.specs.Grouping.{numbers_in, bytes_in, IsInStep}
use Rattle.segment_reader.proofs.grouping.Grouping.next.Given as goal

abbrev pub invariant-loop-chunk : goal.invariant-loop-chunk
invariant-loop-chunk l = record {
  in_step : IsInStep l.self;
  numbers : numbers_in l.self ≡ numbers_in l.initial.self;
  bytes : bytes_in l.self ≡ bytes_in l.initial.self;
}

abbrev pub decreases-loop-chunk : goal.decreases-loop-chunk
decreases-loop-chunk l = length l.self.chunker.bytes
