-- The lines that commands print of chunks and segments (this project's own).
use Rattle.std.specs.Prelude.{◌≡◌, ◌⊎◌, ℕ, List, [], ◌∷◌, ◌++◌, length}
use Rattle.std.specs.List.{concat, flat_map}
use Rattle.std.specs.Fmt.{decimal}
use Rattle.ss_base.specs.declared.name.Piece.{Piece}
use Rattle.ss_base.specs.declared.profile.Numbers.{Numbers}
use Rattle.chunk_name.specs.Hex.{encode_lower}
use Rattle.chunk_name.specs.Pieces.{name_of_bytes, piece, pieces}
use Rattle.hook_sampler.specs.Hooks.{hooks}
use Rattle.manifest_codec.specs.PiecesPart.{pieces_part}
use Rattle.store_run.specs.SoFar.{Stage, segments_of}

-- a text of whole lines: it is empty, or ends with LF
abbrev pub IsLines : List ℕ → Type 0
IsLines text = (text ≡ []) ⊎ ((front : List ℕ) × (text ≡ front ++ 10 ∷ []))

-- the line of a piece: the digits of its name, a space, its length, LF
unfoldable pub piece_line : Piece → List ℕ
piece_line p = encode_lower p.name.0 ++ 32 ∷ [] ++ decimal p.len ++ 10 ∷ []

-- the lines of a list of chunks
abbrev pub chunk_lines : List (List ℕ) → List ℕ
chunk_lines chunks = flat_map (λ chunk. piece_line (piece chunk)) chunks

-- the line of a segment: the digits of its content's name, and its numbers of chunks, bytes and hooks, LF
unfoldable pub segment_line : ℕ → List (List ℕ) → List ℕ
segment_line bits chunks =
    encode_lower (name_of_bytes (pieces_part (pieces chunks))).0
    ++ 32 ∷ []
    ++ decimal (length chunks)
    ++ 32 ∷ []
    ++ decimal (length (concat chunks))
    ++ 32 ∷ []
    ++ decimal (length (hooks bits (pieces chunks)))
    ++ 10 ∷ []

-- the lines of the segments of the chunks that came
abbrev pub segment_lines : Stage → Numbers → List (List ℕ) → List ℕ
segment_lines stage n chunks = flat_map (segment_line n.bits) (segments_of stage n chunks)
