use Rattle.std.proofs.Common.{◌≡◌, ◌++◌, ℕ, List, map, length}
use Rattle.ss_base.specs.Profile.{numbers_of}
use Rattle.tttd_chunker.specs.Cut.{cut}
use Rattle.tttd_chunker.proofs.cut.feed.Given as goal

abbrev pub invariant-loop-chunk : goal.invariant-loop-chunk
invariant-loop-chunk l = record {
  profile : l.chunker.profile ≡ l.initial.chunker.profile;
  stream : (more : List ℕ) → map (λ c. c.items) l.chunks.items ++ cut (numbers_of l.initial.chunker.profile) (l.chunker.bytes ++ more)
      ≡ map (λ c. c.items) l.initial.chunks.items ++ cut (numbers_of l.initial.chunker.profile) (l.initial.chunker.bytes ++ more);
}

abbrev pub decreases-loop-chunk : goal.decreases-loop-chunk
decreases-loop-chunk l = length l.chunker.bytes
