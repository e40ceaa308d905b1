-- What a scan of a container finds, and where it stops (this project's own).
use Rattle.std.specs.Prelude.{◌≡◌, ◌≢◌, ◌⊎◌, ℕ, ◌+◌, List, [], ◌∷◌, ◌++◌, length}
use Rattle.std.specs.List.{All}
use Rattle.ss_base.specs.declared.ids.ContainerId.{ContainerId}
use Rattle.container_file.specs.declared.scanning.ScanRecord.{ScanRecord}
use Rattle.container_file.specs.declared.scanning.ScanFault.{ScanFault}
use Rattle.container_file.specs.declared.scanning.ScanFault.TheVariants.{NotContainer, Memory}
use Rattle.container_file.specs.Chunk.{Chunk, IsChunk}
use Rattle.container_file.specs.Text.{records_text, container_text, HasNoRecord, HasNoHeader}

-- The pieces of chunks whose records lie one behind another from a place on, each with the place of the chunk's
-- first byte.
unfoldable pub records_from : ℕ → List Chunk → List ScanRecord
records_from at [] = []
records_from at (c ∷ cs) = record { piece = c.piece; offset = at + 36 } ∷ records_from (at + 36 + c.piece.len) cs

-- the records of a container with these chunks: the first lies behind the header
abbrev pub records_of : List Chunk → List ScanRecord
records_of cs = records_from 16 cs

-- Behind a header and some whole records, bytes begin here that are no record.
pub record HasBadRecord (bytes : List ℕ) (at : ℕ) : Type 0 where
  pub id : ContainerId
  pub before : List Chunk
  pub rest : List ℕ
  pub chunks : All IsChunk before
  pub text : container_text id before ++ rest ≡ bytes
  pub place : at ≡ length (container_text id before)
  pub some : rest ≢ []
  pub bad : HasNoRecord rest

-- the first place at which the bytes are no container: 0 for a wrong header, else the start of the first bad record
abbrev pub IsFirstBad : List ℕ → ℕ → Type 0
IsFirstBad bytes at = (HasNoHeader bytes × (at ≡ 0)) ⊎ HasBadRecord bytes at

-- what a scan's fault says of the bytes
abbrev pub Refuses : List ℕ → ScanFault → Type 0
Refuses bytes (NotContainer at) = IsFirstBad bytes at
Refuses bytes Memory = Unit {0}

-- behind some whole records, bytes begin at this place of a container that are no record
pub record HasBadRest (records : List ℕ) (at : ℕ) : Type 0 where
  pub before : List Chunk
  pub rest : List ℕ
  pub chunks : All IsChunk before
  pub text : records_text before ++ rest ≡ records
  pub place : at ≡ 16 + length (records_text before)
  pub some : rest ≢ []
  pub bad : HasNoRecord rest

-- what a scan's fault says of the bytes behind a header
abbrev pub RefusesRecords : List ℕ → ScanFault → Type 0
RefusesRecords records (NotContainer at) = HasBadRest records at
RefusesRecords records Memory = Unit {0}
