use Rattle.std.proofs.Common.{◌≡◌, ◌≤◌, List, ◌++◌, length, drop, All}
use Rattle.std.specs.List.{sum_by}
use Rattle.container_file.specs.Chunk.{Chunk, IsChunk, fresh_chunks}
use Rattle.container_file.specs.Plan.{IsLaidOut}
use Rattle.container_file.proofs.planning.plan.Given as goal

abbrev pub invariant-loop-i : goal.invariant-loop-i
invariant-loop-i l = record {
  done : List Chunk;
  all : done ++ fresh_chunks (drop l.i l.pieces) l.rest (drop l.i l.fresh) ≡ fresh_chunks l.pieces l.bytes l.fresh;
  chunks : All IsChunk done;
  laid : IsLaidOut l.fn.end l.room done l.laid;
  count : length done ≤ l.i;
  left : sum_by (λ p. p.len) (drop l.i l.pieces) ≡ length l.rest;
}
