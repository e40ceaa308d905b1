use Rattle.std.proofs.Common.{◌≡◌, ◌++◌, length, take, All}
use Rattle.manifest_codec.specs.PiecesPart.{pieces_part}
use Rattle.manifest_codec.specs.Text.{places_part, IsPlace}
use Rattle.manifest_codec.proofs.encoding.encode.Given as goal

abbrev pub invariant-loop-piece : goal.invariant-loop-piece
invariant-loop-piece l = record {
  text : l.text.items ≡ pieces_part (take l.piece-index l.manifest.pieces.items);
  names : All (λ p. length p.name.0 ≡ 32) (take l.piece-index l.manifest.pieces.items);
}

abbrev pub invariant-loop-place : goal.invariant-loop-place
invariant-loop-place l = record {
  text : l.text.items ≡ pieces_part l.manifest.pieces.items ++ places_part (take l.place-index l.manifest.places.items);
  names : All (λ p. length p.name.0 ≡ 32) l.manifest.pieces.items;
  numbers : All IsPlace (take l.place-index l.manifest.places.items);
}
