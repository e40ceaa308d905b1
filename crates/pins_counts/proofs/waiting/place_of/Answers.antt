use Rattle.std.proofs.Common.{◌<◌, ◌+◌, ◌-◌, ◌/◌, length, arith}
use Rattle.pins_counts.proofs.AscendingLaws.{search_upper, search_lower}
use Rattle.pins_counts.proofs.waiting.place_of.Goals as goal

pub loop-low-preserved-then-index-number : goal.loop-low-preserved-then-index-number
loop-low-preserved-then-index-number c =
    let low = c.loop-low.low in
    let high = c.loop-low.invariant.1 in
    let within : low + (c.loop-low.high - low) / 2 < length c.args.sessions.now.items = omega (arith, high) in
    (omega arith, high, (λ k d below. search_upper c.args.below c.args.sessions.now.items _ c.args.number c.index.result.now k d c.requires within c.index.ensures c.if-index-number.true below), c.loop-low.invariant.3)

pub loop-low-preserved : goal.loop-low-preserved
loop-low-preserved c =
    let low = c.loop-low.low in
    let high = c.loop-low.invariant.1 in
    let inside : low + (c.loop-low.high - low) / 2 < length c.args.sessions.now.items = omega (arith, high) in
    (omega arith, omega (arith, high), c.loop-low.invariant.2, (λ k d from within. search_lower c.args.below c.args.sessions.now.items _ c.args.number c.index.result.now k d c.requires inside c.index.ensures c.if-index-number.false from (omega (arith, within))))
