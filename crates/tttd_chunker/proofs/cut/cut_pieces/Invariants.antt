use Rattle.std.proofs.Common.{◌≡◌, ◌++◌, ℕ, List, map, take, false}
use Rattle.std.specs.List.{flat_map}
use Rattle.ss_base.specs.Profile.{numbers_of}
use Rattle.tttd_chunker.specs.Cut.{has_cut, cut}
use Rattle.tttd_chunker.proofs.cut.cut_pieces.Given as goal

abbrev pub invariant-loop-piece : goal.invariant-loop-piece
invariant-loop-piece l = record {
  profile : l.chunker.profile ≡ l.fn.profile;
  open_end : has_cut (numbers_of l.fn.profile) l.chunker.bytes ≡ false;
  stream : (more : List ℕ) → map (λ c. c.items) l.chunks.items ++ cut (numbers_of l.fn.profile) (l.chunker.bytes ++ more)
      ≡ cut (numbers_of l.fn.profile) (flat_map (λ p. p.items) (take l.piece-index l.pieces) ++ more);
}
