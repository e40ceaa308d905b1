-- Chunks that are to be stored.
use Rattle.std.specs.Prelude.{◌≡◌, ℕ, Bool, true, false, List, [], ◌∷◌, length, take, drop}
use Rattle.ss_base.specs.declared.name.Piece.{Piece}
use Rattle.chunk_name.specs.Pieces.{HasChunkLen}

-- a chunk: what stands for it, and its bytes
pub record Chunk : Type 0 where
  pub piece : Piece
  pub bytes : List ℕ

-- the chunk with this piece and these bytes
abbrev pub the_chunk : Piece → List ℕ → Chunk
the_chunk piece bytes = record { piece = piece; bytes = bytes }

-- A chunk that a record can hold (the limits are this project's own): from 1 to 11,200 bytes, as many as its piece
-- says, and a name of 32 bytes.
pub record IsChunk (c : Chunk) : Type 0 where
  pub name : length c.piece.name.0 ≡ 32
  pub len : HasChunkLen c.piece
  pub bytes : length c.bytes ≡ c.piece.len

-- the chunks that lie one behind another in the bytes, with these pieces
unfoldable pub chunks_of : List Piece → List ℕ → List Chunk
chunks_of [] bytes = []
chunks_of (p ∷ ps) bytes = the_chunk p (take p.len bytes) ∷ chunks_of ps (drop p.len bytes)

-- the items that are marked, in their order
unfoldable pub marked : {X : Type 0} → List Bool → List X → List X
marked [] xs = []
marked (mark ∷ marks) [] = []
marked (true ∷ marks) (x ∷ xs) = x ∷ marked marks xs
marked (false ∷ marks) (x ∷ xs) = marked marks xs

-- the fresh chunks of a segment, in their order (FAST 2009: those that have to be stored)
abbrev pub fresh_chunks : List Piece → List ℕ → List Bool → List Chunk
fresh_chunks pieces bytes fresh = marked fresh (chunks_of pieces bytes)
