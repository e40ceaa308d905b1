-- What stands for a chunk: its name, and its name with its length.
use Rattle.std.specs.Prelude.{ℕ, ◌≤◌, List, length, map}
use Rattle.ss_base.specs.declared.limits.TheConstants.{MAX_CHUNK_LEN}
use Rattle.ss_base.specs.declared.name.Name.{Name}
use Rattle.ss_base.specs.declared.name.Piece.{Piece}
use Rattle.sha2.specs.Sha256.{sha256}

-- the name of some bytes: their SHA-256 (FIPS 180-4)
abbrev pub name_of_bytes : List ℕ → Name
name_of_bytes bytes = record { 0 = sha256 bytes }

-- the piece of a chunk: its name and its length in bytes (FAST 2009, the unit of a manifest)
abbrev pub piece : List ℕ → Piece
piece chunk = record { name = name_of_bytes chunk; len = length chunk }

-- the pieces of a list of chunks, in their order
abbrev pub pieces : List (List ℕ) → List Piece
pieces chunks = map piece chunks

-- the piece of a chunk from 1 to 11,200 bytes, as every profile cuts them
abbrev pub HasChunkLen : Piece → Type 0
HasChunkLen p = (1 ≤ p.len) × (p.len ≤ MAX_CHUNK_LEN)
