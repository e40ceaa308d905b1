use Rattle.std.proofs.Common.{lit<}
use Rattle.store_shared.proofs.TookLaws.{looked_one, can_leave}
use Rattle.store_shared.proofs.store.Store.look.Goals as goal

pub leave-pass-requires : goal.leave-pass-requires
leave-pass-requires g c = (lit< tt, (lit< tt, can_leave _ c.args.pass _ _ _ _ c.requires.turns c.number-author.ensures c.enter-inside.ensures.pass c.enter-inside.ensures.base (looked_one _ _ _ _ _ c.look-answer.ensures)))
