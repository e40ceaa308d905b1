use Rattle.std.proofs.Common.{rules}
use Rattle.turn_lock.proofs.Calls.{copies_at}
use Rattle.turn_lock.proofs.turns.Turns.note.Goals as goal

pub split_seat-copy-requires : goal.split_seat-copy-requires
split_seat-copy-requires g c = (search rules, search rules, copies_at g.T.Logged.entries g.T.Logged.base _ _)
