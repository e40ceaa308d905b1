-- Laws of names.
use Rattle.std.proofs.Common.{◌≡◌, ℕ, List, length}
use Rattle.sha2.proofs.Facts256.{length-sha256}
use Rattle.chunk_name.specs.Pieces.{name_of_bytes}

-- a name has 32 bytes
pub length-name_of_bytes : (bytes : List ℕ) → length (name_of_bytes bytes).0 ≡ 32
length-name_of_bytes bytes = length-sha256 bytes
