use Rattle.std.proofs.Common.{lit<}
use Rattle.history_calls.proofs.AskLaws.{can_finish, begun_idle}
use Rattle.history_calls.proofs.ReadLaws.{can_end}
use Rattle.history_calls.proofs.tests.a_session_is_finished_and_read.Goals as goal

pub finish-caller-requires : goal.finish-caller-requires
finish-caller-requires g c = (lit< tt, can_finish _ 0 0 (begun_idle _ _ _ _ _ _ c.in-Ok.ensures))

pub done-caller-requires : goal.done-caller-requires
done-caller-requires g c = (lit< tt, can_end _ _ _ _ _ _ c.in-Ok-look.ensures)
