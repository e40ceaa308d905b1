use Rattle.std.proofs.Common.{take}
use Rattle.pins_counts.specs.Counts.{containers}
use Rattle.pins_counts.proofs.LoopLaws.{Changed}
use Rattle.pins_counts.proofs.counts.Counts.add_uses.Given as goal

abbrev pub invariant-loop-id : goal.invariant-loop-id
invariant-loop-id l = Changed (containers (take l.id-index l.uses)) l.fn.self l.self
