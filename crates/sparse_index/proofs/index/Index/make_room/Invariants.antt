use Rattle.std.proofs.Common.{take}
use Rattle.sparse_index.proofs.LoopLaws.{WithRoom}
use Rattle.sparse_index.proofs.index.Index.make_room.Given as goal

abbrev pub invariant-loop-hook : goal.invariant-loop-hook
invariant-loop-hook g l = WithRoom (take l.hook-index l.hooks) l.fn.self l.self
