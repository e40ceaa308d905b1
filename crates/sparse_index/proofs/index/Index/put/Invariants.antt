use Rattle.std.proofs.Common.{take}
use Rattle.ss_base.specs.Standings.{in_front}
use Rattle.sparse_index.proofs.LoopLaws.{Changed}
use Rattle.sparse_index.proofs.index.Index.put.Given as goal

abbrev pub invariant-loop-hook : goal.invariant-loop-hook
invariant-loop-hook g l = Changed (in_front g.row.L l.fn.standing) (take l.hook-index l.hooks) l.fn.self l.self
