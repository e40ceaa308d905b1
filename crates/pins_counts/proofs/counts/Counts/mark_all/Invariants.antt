use Rattle.std.proofs.Common.{take}
use Rattle.pins_counts.proofs.LoopLaws.{Marked}
use Rattle.pins_counts.proofs.counts.Counts.mark_all.Given as goal

abbrev pub invariant-loop-object : goal.invariant-loop-object
invariant-loop-object l = Marked (take l.object-index l.objects) l.fn.self l.self
