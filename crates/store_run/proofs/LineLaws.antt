-- The lines of chunks and segments are whole.
use Rattle.std.proofs.Common.{ℕ, List, [], ◌∷◌, ◌++◌, length, inr, refl}
use Rattle.std.specs.List.{concat}
use Rattle.std.specs.Fmt.{decimal}
use Rattle.ss_base.specs.declared.name.Piece.{Piece}
use Rattle.chunk_name.specs.Hex.{encode_lower}
use Rattle.chunk_name.specs.Pieces.{name_of_bytes, pieces}
use Rattle.hook_sampler.specs.Hooks.{hooks}
use Rattle.manifest_codec.specs.PiecesPart.{pieces_part}
use Rattle.store_run.specs.Lines.{IsLines, piece_line, segment_line}

pub IsLines-piece : (p : Piece) → IsLines (piece_line p)
unfolding piece_line
IsLines-piece p = inr (encode_lower p.name.0 ++ 32 ∷ [] ++ decimal p.len, refl)

pub IsLines-segment : (bits : ℕ) (chunks : List (List ℕ)) → IsLines (segment_line bits chunks)
unfolding segment_line
IsLines-segment bits chunks = inr (
  encode_lower (name_of_bytes (pieces_part (pieces chunks))).0
      ++ 32 ∷ []
      ++ decimal (length chunks)
      ++ 32 ∷ []
      ++ decimal (length (concat chunks))
      ++ 32 ∷ []
      ++ decimal (length (hooks bits (pieces chunks))),
  refl,
)
