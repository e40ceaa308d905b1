use Rattle.std.proofs.Common.{rules, refl}
use Rattle.turn_lock.specs.Entered.{seat_pass, ticket_of}
use Rattle.turn_lock.specs.Passes.{PassView}
use Rattle.turn_lock.proofs.Calls.{adds_at, serves_at, added, held}
use Rattle.turn_lock.proofs.turns.Turns.leave.Goals as goal

pub fetch_add-requires : goal.fetch_add-requires
fetch_add-requires g c =
    let p = seat_pass c.args.inside.seat in
    let t = ticket_of c.args.inside.seat.me.0.ticket in
    let at = held _ _ t p c.args.inside.state c.args.inside.seated c.exchange-back.ensures.3 in
    (search rules, search rules, adds_at g.T.Logged.entries g.T.Logged.base _ _ _ t p c.args.inside.state at c.requires.entries)

pub fetch_add-requires-2 : goal.fetch_add-requires-2
fetch_add-requires-2 g c =
    let p = seat_pass c.args.inside.seat in
    let t = ticket_of c.args.inside.seat.me.0.ticket in
    let at = held _ _ t p c.args.inside.state c.args.inside.seated c.exchange-back.ensures.3 in
    let now = added g.T.Logged.entries g.T.Logged.base _ _ t p c.args.inside.state at c.fetch_add.ensures.2 in
    let p' : PassView = record p { seen = g.T.Logged.entries c.args.inside.state } in
    (search rules, search rules, serves_at g.T.Logged.entries g.T.Logged.base _ _ _ t p' c.args.inside.state now refl c.requires.base)
