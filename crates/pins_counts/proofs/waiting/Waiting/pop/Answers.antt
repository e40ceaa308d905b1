use Rattle.std.proofs.Common.{sym, subst, arith}
use Rattle.pins_counts.specs.Waiting.{IsAscending}
use Rattle.pins_counts.proofs.AscendingLaws.{ascending_dropped}
use Rattle.pins_counts.proofs.waiting.Waiting.pop.Goals as goal

pub invariant_of-self : goal.invariant_of-self
invariant_of-self c =
    let e = c.pop_front.ensures in
    let room = c.self.invariant.1 in
    let kept = e.capacity in
    (subst (IsAscending 0 c.self.inside.below) (sym e.rest) (ascending_dropped c.self.inside.below c.self.inside.sessions.items c.self.invariant.0), omega (arith, room, kept))
