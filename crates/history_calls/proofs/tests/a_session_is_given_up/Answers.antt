use Rattle.std.proofs.Common.{arith, lit<}
use Rattle.history_calls.proofs.AskLaws.{no_hooks, can_choose, can_abort_chosen, begun_idle, chosen_now}
use Rattle.history_calls.proofs.tests.a_session_is_given_up.Goals as goal

pub choose-requires : goal.choose-requires
choose-requires g c =
    let idle = begun_idle _ _ _ _ _ _ c.in-Ok.ensures in
    (lit< tt, can_choose _ 0 0 _ idle (rw c.new.ensures.items (no_hooks _)))

pub abort_chosen-caller-requires : goal.abort_chosen-caller-requires
abort_chosen-caller-requires g c =
    let idle = begun_idle _ _ _ _ _ _ c.in-Ok.ensures in
    let chosen = chosen_now _ _ _ _ 0 0 _ _ c.in-Ok-choose.ensures idle in
    (lit< tt, can_abort_chosen _ _ 0 0 1 (omega arith) chosen)
