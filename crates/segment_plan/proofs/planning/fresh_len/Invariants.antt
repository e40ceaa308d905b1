use Rattle.std.proofs.Common.{◌≡◌, ◌+◌, drop}
use Rattle.container_file.specs.Chunk.{marked}
use Rattle.segment_plan.specs.Planned.{total_len}
use Rattle.segment_plan.proofs.planning.fresh_len.Given as goal

abbrev pub invariant-loop-i : goal.invariant-loop-i
invariant-loop-i l = l.total + total_len (marked (drop l.i l.marks) (drop l.i l.pieces)) ≡ total_len (marked l.marks l.pieces)
