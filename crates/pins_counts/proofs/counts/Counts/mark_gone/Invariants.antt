use Rattle.std.proofs.Common.{take}
use Rattle.pins_counts.proofs.LoopLaws.{WithRoom}
use Rattle.pins_counts.proofs.counts.Counts.mark_gone.Given as goal

abbrev pub invariant-loop-object : goal.invariant-loop-object
invariant-loop-object l = WithRoom (take l.object-index l.objects) l.fn.self l.self
