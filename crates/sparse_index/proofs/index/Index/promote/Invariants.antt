use Rattle.std.proofs.Common.{take}
use Rattle.ss_base.specs.Standings.{promoted}
use Rattle.sparse_index.proofs.LoopLaws.{Changed}
use Rattle.sparse_index.proofs.index.Index.promote.Given as goal

abbrev pub invariant-loop-hook : goal.invariant-loop-hook
invariant-loop-hook g l = Changed (promoted l.champions) (take l.hook-index l.hooks) l.fn.self l.self
