use Rattle.std.proofs.Common.{take}
use Rattle.ss_base.specs.Standings.{without_manifest}
use Rattle.sparse_index.proofs.LoopLaws.{Changed}
use Rattle.sparse_index.proofs.index.Index.retire.Given as goal

abbrev pub invariant-loop-hook : goal.invariant-loop-hook
invariant-loop-hook g l = Changed (without_manifest l.id) (take l.hook-index l.hooks) l.fn.self l.self
