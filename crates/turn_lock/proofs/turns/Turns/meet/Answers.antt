use Rattle.std.proofs.Common.{rules, ap, ◌∙◌}
use Rattle.turn_lock.proofs.Calls.{merges_at, tells_at, only_view}
use Rattle.turn_lock.proofs.turns.Turns.meet.Goals as goal

pub join_seat-requires : goal.join_seat-requires
join_seat-requires g c =
    let one = only_view _ _ _ c.into_seat-seat.ensures.2 (ap (λ b. b.views) c.replace-badge.ensures.value ∙ c.pass.invariant.0) in
    let two = only_view _ _ _ c.into_seat.ensures.2 c.note.invariant.0 in
    (search rules, search rules, search rules, search rules, merges_at g.T.Logged.entries g.T.Logged.base _ _ _ _ (ap (λ v. v.ticket) one) (ap (λ v. v.ticket) two ∙ c.note.invariant.1.ticket) (ap (λ v. v.inside) one) (ap (λ v. v.inside) two ∙ c.note.invariant.1.inside))

pub load-requires : goal.load-requires
load-requires g c = (search rules, search rules, tells_at g.T.Logged.entries g.T.Logged.base _ _ _)
