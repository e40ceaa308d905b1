use Rattle.std.proofs.Common.{◌≡◌, ◌*◌, length, take, All}
use Rattle.chunk_name.specs.Pieces.{HasChunkLen}
use Rattle.manifest_codec.specs.PiecesPart.{pieces_part}
use Rattle.manifest_codec.proofs.decoding.read_pieces.Given as goal

abbrev pub invariant-loop-i : goal.invariant-loop-i
invariant-loop-i l = record {
  read : pieces_part l.pieces.items ≡ take (36 * l.i) l.text;
  count : length l.pieces.items ≡ l.i;
  lengths : All HasChunkLen l.pieces.items;
  names : All (λ p. length p.name.0 ≡ 32) l.pieces.items;
}
