use Rattle.std.proofs.Common.{arith}
use Rattle.pins_counts.proofs.LoopLaws.{taken_step, number_unchanged}
use Rattle.pins_counts.proofs.counts.Counts.drop_uses.Goals as goal

pub take_one-requires-clause-above : goal.take_one-requires-clause-above
take_one-requires-clause-above c =
    let same = number_unchanged c.args.uses.now c.loop-id.id-index (record { session = 0; ordinal = 0 }) c.requires.distinct (omega arith) c.loop-id.self c.args.self.now c.loop-id.invariant in
    let bound = c.requires.above c.loop-id.id-index (record { session = 0; ordinal = 0 }) (omega arith) in
    omega (arith, same, bound)

pub loop-id-preserved : goal.loop-id-preserved
loop-id-preserved c =
    let e = c.take_one.ensures in
    taken_step c.args.uses.now c.loop-id.id-index (record { session = 0; ordinal = 0 }) c.requires.distinct (omega arith) c.args.self.now c.loop-id.self c.take_one.new.self c.loop-id.invariant e.numbers e.ready e.rest
