-- The text of a container (this project's own).
use Rattle.std.specs.Prelude.{◌≡◌, ◌≢◌, ℕ, List, ◌++◌, codes}
use Rattle.std.specs.List.{All, flat_map}
use Rattle.std.specs.Int.{w32, to_be_bytes}
use Rattle.ss_base.specs.declared.ids.ContainerId.{ContainerId}
use Rattle.container_file.specs.Chunk.{Chunk, IsChunk}

-- the 16 bytes of a header: SSC1, and in 4 bytes each, the highest first, session, ordinal and zero
abbrev pub header : ContainerId → List ℕ
header id = codes "SSC1" ++ to_be_bytes w32 id.session ++ to_be_bytes w32 id.ordinal ++ to_be_bytes w32 0

-- a record: the chunk's length in 4 bytes, the highest first, its name's 32, and its bytes
abbrev pub record_text : Chunk → List ℕ
record_text c = to_be_bytes w32 c.piece.len ++ c.piece.name.0 ++ c.bytes

-- records, one behind another
abbrev pub records_text : List Chunk → List ℕ
records_text cs = flat_map record_text cs

-- the text of a container: its header, then its records
abbrev pub container_text : ContainerId → List Chunk → List ℕ
container_text id cs = header id ++ records_text cs

-- the bytes are the text of the container with this id and these chunks
pub record IsContainer (id : ContainerId) (cs : List Chunk) (bytes : List ℕ) : Type 0 where
  pub chunks : All IsChunk cs
  pub text : container_text id cs ≡ bytes

-- no record begins the bytes
abbrev pub HasNoRecord : List ℕ → Type 0
HasNoRecord bytes = (c : Chunk) (rest : List ℕ) → IsChunk c → record_text c ++ rest ≢ bytes

-- no header begins the bytes
abbrev pub HasNoHeader : List ℕ → Type 0
HasNoHeader bytes = (id : ContainerId) (rest : List ℕ) → header id ++ rest ≢ bytes
