use Rattle.std.proofs.Common.{take}
use Rattle.pins_counts.specs.Counts.{containers}
use Rattle.pins_counts.proofs.LoopLaws.{WithRoom}
use Rattle.pins_counts.proofs.counts.Counts.make_room.Given as goal

abbrev pub invariant-loop-id : goal.invariant-loop-id
invariant-loop-id l = WithRoom (containers (take l.id-index l.uses)) l.fn.self l.self
