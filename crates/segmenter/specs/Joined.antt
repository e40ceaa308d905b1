-- Chunks that are kept as their pieces and their joined bytes.
use Rattle.std.specs.Prelude.{◌≡◌, ℕ, List, [], ◌∷◌, length, take, drop, sum_by}
use Rattle.ss_base.specs.declared.name.Piece.{Piece}
use Rattle.chunk_name.specs.Pieces.{pieces}

-- the parts of some bytes: each as long as the next piece says
abbrev pub parts_of : List Piece → List ℕ → List (List ℕ)
parts_of [] bytes = []
parts_of (p ∷ ps) bytes = take p.len bytes ∷ parts_of ps (drop p.len bytes)

-- the lengths of the pieces sum to the number of bytes, and the pieces are those of the parts
pub record ArePieces (ps : List Piece) (bytes : List ℕ) : Type 0 where
  pub sum : sum_by (λ p. p.len) ps ≡ length bytes
  pub parts : pieces (parts_of ps bytes) ≡ ps
