use Rattle.std.proofs.Common.{◌≡◌, ◌++◌, map, length, false}
use Rattle.ss_base.specs.Profile.{numbers_of}
use Rattle.tttd_chunker.specs.Cut.{has_cut, cut}
use Rattle.tttd_chunker.proofs.cut.cut_all.Given as goal

abbrev pub invariant-loop-rest : goal.invariant-loop-rest
invariant-loop-rest l = record {
  profile : l.chunker.profile ≡ l.fn.profile;
  open_end : has_cut (numbers_of l.fn.profile) l.chunker.bytes ≡ false;
  stream : map (λ c. c.items) l.chunks.items ++ cut (numbers_of l.fn.profile) (l.chunker.bytes ++ l.rest) ≡ cut (numbers_of l.fn.profile) l.bytes;
}

abbrev pub decreases-loop-rest : goal.decreases-loop-rest
decreases-loop-rest l = length l.rest
