use Rattle.std.proofs.Common.{◌≡◌, ◌+◌, ◌-◌, ◌*◌, take, drop, length, ap, ◌∙◌, arith, ◌∷◌, [], length-append, rules}
use Rattle.std.proofs.lemmas.List.Elements.{All-push}
use Rattle.chunk_name.specs.Pieces.{HasChunkLen}
use Rattle.ss_base.specs.declared.name.Piece.{Piece}
use Rattle.manifest_codec.specs.PiecesPart.{piece_text}
use Rattle.manifest_codec.proofs.FixedLaws.{read-more}
use Rattle.manifest_codec.proofs.TextLaws.{has_its_length, IsPiece}
use Rattle.manifest_codec.proofs.decoding.read_pieces.Goals as goal
use Rattle.manifest_codec.proofs.decoding.read_pieces.Goals.{then-piece-lt1-via-then-piece-lt1, then-piece-lt1-via-else-piece-lt1+then-piece-gt-MAX_CHUNK_LEN}

pub loop-i-preserved : goal.loop-i-preserved
loop-i-preserved c =
    let i = c.loop-i.i in
    let text = c.args.text.now in
    let piece = c.read_piece-piece.result in
    let before = c.loop-i.invariant in
    let size : 36 * i + 36 - 36 * i ≡ 36 = omega arith in
    let part : piece_text piece ≡ take 36 (drop (36 * i) text) = c.read_piece-piece.ensures.text ∙ ap (λ k. take k (drop (36 * i) text)) size in
    let count = length-append c.loop-i.pieces.items (piece ∷ []) in
    rw c.in_ok-push.ensures.items (record {
      read = read-more piece_text 36 c.loop-i.pieces.items piece text i before.read part;
      count = count ∙ omega arith;
      lengths = All-push HasChunkLen c.loop-i.pieces.items piece before.lengths (omega arith, omega arith);
      names = All-push (λ (p : Piece). length p.name.0 ≡ 32) c.loop-i.pieces.items piece before.names c.read_piece-piece.ensures.name;
    })

pub returns-then-piece-lt1-clause-refused : goal.returns-then-piece-lt1-clause-refused
returns-then-piece-lt1-clause-refused c = λ _ ps named lengths same.
    let i = c.loop-i.i in
    let text = c.args.text.now in
    let piece = c.read_piece-piece.result in
    let size : 36 * i + 36 - 36 * i ≡ 36 = omega arith in
    let part : piece_text piece ≡ take 36 (drop (36 * i) text) = c.read_piece-piece.ensures.text ∙ ap (λ k. take k (drop (36 * i) text)) size in
    let fits : IsPiece piece = record { name = c.read_piece-piece.ensures.name; len = search rules } in
    let its = has_its_length ps text c.args.count i piece named lengths same c.requires c.loop-i-test.true fits part in
    elim c.then-piece-lt1.branch [
      | then-piece-lt1-via-then-piece-lt1 w ↦ omega (arith, its.0)
      | then-piece-lt1-via-else-piece-lt1+then-piece-gt-MAX_CHUNK_LEN w ↦ omega (arith, its.1)
    ]
