use Rattle.std.proofs.Common.{lit<}
use Rattle.store_core.specs.Answers.{StatAnswer}
use Rattle.store_shared.proofs.TookLaws.{counted_one, can_leave, took}
use Rattle.store_shared.proofs.store.Store.stat.Goals as goal

pub leave-requires : goal.leave-requires
leave-requires g c = (lit< tt, (lit< tt, can_leave _ c.args.pass _ _ _ _ c.requires.turns c.number-author.ensures c.enter-inside.ensures.pass c.enter-inside.ensures.base (counted_one _ _ _ _ c.stat-answer.ensures)))

pub returns : goal.returns
returns g c = took g.row.L g.row.M c.args.pass _ _ _ _ _ c.number-author.ensures c.enter-inside.ensures.pass c.enter-inside.ensures.turn c.leave.ensures.pass c.leave.ensures.seen (λ a turn after. StatAnswer turn after a c.stat-answer.result) c.stat-answer.ensures
