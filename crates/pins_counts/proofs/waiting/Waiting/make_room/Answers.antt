use Rattle.std.proofs.Common.{sym, subst, arith}
use Rattle.pins_counts.specs.Waiting.{IsAscending}
use Rattle.pins_counts.proofs.AscendingLaws.{ascending_length, ascending_raised}
use Rattle.pins_counts.proofs.waiting.Waiting.make_room.Goals as goal

pub overflow_sub-below : goal.overflow_sub-below
overflow_sub-below c =
    let size = ascending_length 0 c.self.inside.below c.self.inside.sessions.items c.self.invariant.0 in
    omega (arith, size)

pub invariant_of-self-then-self-below : goal.invariant_of-self-then-self-below
invariant_of-self-then-self-below c =
    let e = c.in_ok-try_reserve.ensures in
    let size = ascending_length 0 c.self.inside.below c.self.inside.sessions.items c.self.invariant.0 in
    let raised = ascending_raised 0 c.self.inside.below c.args.below c.self.inside.sessions.items (omega arith) c.self.invariant.0 in
    (subst (IsAscending 0 c.args.below) (sym e.items) raised, (let room = e.ok in omega (arith, size, room)))
