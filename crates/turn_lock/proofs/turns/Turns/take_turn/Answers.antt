use Rattle.std.proofs.Common.{rules}
use Rattle.turn_lock.specs.Entered.{seat_pass}
use Rattle.turn_lock.proofs.Calls.{draws_at}
use Rattle.turn_lock.proofs.turns.Turns.take_turn.Goals as goal

pub fetch_add-ticket-requires : goal.fetch_add-ticket-requires
fetch_add-ticket-requires g c = (
  search rules,
  search rules,
  draws_at g.T.Logged.entries g.T.Logged.base _ _ _ (seat_pass c.args.seat.now) c.requires.rests,
)
