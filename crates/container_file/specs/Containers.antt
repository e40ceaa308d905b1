-- What lies in one container, as its text and as a scan shows it (this project's own).
use Rattle.std.specs.Prelude.{ℕ, List, map}
use Rattle.ss_base.specs.declared.ids.ContainerId.{ContainerId}
use Rattle.container_file.specs.declared.container_end.ContainerEnd.{ContainerEnd}
use Rattle.container_file.specs.declared.scanning.ScanRecord.{ScanRecord}
use Rattle.container_file.specs.Chunk.{Chunk}
use Rattle.container_file.specs.Layout.{laid, laid_in}

-- the id of the session's container with this ordinal
abbrev pub id_of : ContainerEnd → ℕ → ContainerId
id_of end o = record { session = end.session; ordinal = o }

-- the fresh chunks that lie in the container with this ordinal
abbrev pub chunks_in : ContainerEnd → ℕ → List Chunk → ℕ → List Chunk
chunks_in end room cs o = map (λ l. l.chunk) (laid_in o (laid end room cs))

-- their pieces, with the places that the layout gave them
abbrev pub records_in : ContainerEnd → ℕ → List Chunk → ℕ → List ScanRecord
records_in end room cs o = map (λ l. record { piece = l.chunk.piece; offset = l.place.offset }) (laid_in o (laid end room cs))
