use Rattle.std.proofs.Common.{arith}
use Rattle.pins_counts.proofs.LoopLaws.{added_step, number_unchanged}
use Rattle.pins_counts.proofs.counts.Counts.add_uses.Goals as goal

pub add_one-requires-clause-below : goal.add_one-requires-clause-below
add_one-requires-clause-below c =
    let same = number_unchanged c.args.uses.now c.loop-id.id-index (record { session = 0; ordinal = 0 }) c.requires.distinct (omega arith) c.args.self.now c.loop-id.self c.loop-id.invariant in
    let bound = c.requires.below c.loop-id.id-index (record { session = 0; ordinal = 0 }) (omega arith) in
    omega (arith, same, bound)

pub loop-id-preserved : goal.loop-id-preserved
loop-id-preserved c =
    let e = c.add_one.ensures in
    added_step c.args.uses.now c.loop-id.id-index (record { session = 0; ordinal = 0 }) c.requires.distinct (omega arith) c.args.self.now c.loop-id.self c.add_one.new.self c.loop-id.invariant e.numbers e.ready e.rest
