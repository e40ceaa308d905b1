use Rattle.std.proofs.Common.{rules, ◌≡◌, ◌∷◌, sym, ap, ◌∙◌, subst, Some}
use Rattle.atomic_table.specs.Table.{rest}
use Rattle.turn_lock.specs.Entered.{seat_pass}
use Rattle.turn_lock.specs.Found.{IsFound}
use Rattle.turn_lock.proofs.Calls.{looks_at, finds}
use Rattle.turn_lock.proofs.turns.Turns.wait_turn.Goals as goal

pub load-requires : goal.load-requires
load-requires g c = (
  search rules,
  search rules,
  looks_at g.T.Logged.entries g.T.Logged.base _ _ _ c.requires.waits.0 (seat_pass c.args.seat.now) (c.loop.invariant.1 ∙ c.requires.waits.2),
)

pub exchange-requires : goal.exchange-requires
exchange-requires g c =
    let at = c.loop.invariant.1 ∙ c.requires.waits.2 in
    let took = finds g.T.Logged.entries g.T.Logged.base _ _ c.requires.waits.0 (seat_pass c.args.seat.now) at ((c.load.ensures.2 c.requires.waits.0 (ap (λ m. m.0.ticket) at)).0 (search rules ∙ c.requires.waits.1)) in
    (search rules, (Some took.0, ap (λ m. m.1) took.1 ∙ ap (λ m. (0, Some took.0) ∷ rest m.1) (sym took.1)))

pub returns-then-load-ticket-clause-found : goal.returns-then-load-ticket-clause-found
returns-then-load-ticket-clause-found g c =
    let at = c.loop.invariant.1 ∙ c.requires.waits.2 in
    let took = finds g.T.Logged.entries g.T.Logged.base _ _ c.requires.waits.0 (seat_pass c.args.seat.now) at ((c.load.ensures.2 c.requires.waits.0 (ap (λ m. m.0.ticket) at)).0 (search rules ∙ c.requires.waits.1)) in
    let same : took.0 ≡ c.unwrap.result = search rules in
    subst (IsFound g.T.Logged.entries g.T.Logged.base (seat_pass c.args.seat.now)) same took.2
