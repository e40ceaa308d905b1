use Rattle.std.proofs.Common.{◌≤◌, ◌++◌, [], length, take, append-nil, map, sym, ap, ◌∙◌, arith}
use Rattle.std.specs.List.{flat_map}
use Rattle.std.proofs.lemmas.List.{take_all}
use Rattle.ss_base.specs.Profile.{numbers_of}
use Rattle.tttd_chunker.specs.Cut.{cut}
use Rattle.tttd_chunker.proofs.cut.cut_pieces.Goals as goal

pub returns : goal.returns
returns c =
    let n = numbers_of c.args.profile in
    let before = map (λ v. v.items) c.loop-piece.chunks.items in
    let pieces = c.args.pieces.now in
    let i = c.loop-piece.piece-index in
    let whole : length pieces ≤ i = omega arith in
    c.in_ok-end.ensures
    ∙ ap (λ p. before ++ cut (numbers_of p) c.loop-piece.chunker.bytes) c.loop-piece.invariant.profile
    ∙ ap (λ b. before ++ cut n b) (sym (append-nil c.loop-piece.chunker.bytes))
    ∙ c.loop-piece.invariant.stream []
    ∙ ap (cut n) (append-nil (flat_map (λ p. p.items) (take i pieces)))
    ∙ ap (λ ps. cut n (flat_map (λ p. p.items) ps)) (take_all i pieces whole)
