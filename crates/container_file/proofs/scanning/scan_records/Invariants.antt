use Rattle.std.proofs.Common.{◌≡◌, ◌+◌, ◌++◌, List, length, All}
use Rattle.container_file.specs.Chunk.{Chunk, IsChunk}
use Rattle.container_file.specs.Text.{records_text}
use Rattle.container_file.specs.Scanned.{records_of}
use Rattle.container_file.proofs.scanning.scan_records.Given as goal

abbrev pub decreases-loop-rest : goal.decreases-loop-rest
decreases-loop-rest l = length l.rest

abbrev pub invariant-loop-rest : goal.invariant-loop-rest
invariant-loop-rest l = record {
  done : List Chunk;
  chunks : All IsChunk done;
  text : records_text done ++ l.rest ≡ l.bytes;
  found : l.found.items ≡ records_of done;
  place : l.at ≡ 16 + length (records_text done);
}
