use Rattle.std.proofs.Common.{lit<}
use Rattle.store_core.specs.Answers.{ReclaimAnswer}
use Rattle.store_shared.proofs.TookLaws.{reclaimed_one, can_leave, took}
use Rattle.store_shared.proofs.store.Store.reclaim.Goals as goal

pub leave-requires : goal.leave-requires
leave-requires g c = (lit< tt, (lit< tt, can_leave _ c.args.pass _ _ _ _ c.requires.turns c.number-author.ensures c.enter-inside.ensures.pass c.enter-inside.ensures.base (reclaimed_one _ _ _ _ c.reclaim-answer.ensures)))

pub returns : goal.returns
returns g c = took g.row.L g.row.M c.args.pass _ _ _ _ _ c.number-author.ensures c.enter-inside.ensures.pass c.enter-inside.ensures.turn c.leave.ensures.pass c.leave.ensures.seen (λ a turn after. ReclaimAnswer turn after a c.reclaim-answer.result) c.reclaim-answer.ensures
