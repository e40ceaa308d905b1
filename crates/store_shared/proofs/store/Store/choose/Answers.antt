use Rattle.std.proofs.Common.{sym, ap, ◌∙◌, subst, lit<}
use Rattle.history_calls.specs.SessionSteps.{CanChoose}
use Rattle.store_shared.specs.Tokens.{SessionToken, open_of}
use Rattle.store_shared.proofs.TookLaws.{chosen_one, can_leave}
use Rattle.store_shared.proofs.MayLaws.{may_choose}
use Rattle.store_shared.proofs.store.Store.choose.Goals as goal

pub choose-answer-requires : goal.choose-answer-requires
choose-answer-requires g c =
    let may = subst (λ (t : SessionToken). CanChoose (open_of t) c.args.hooks.items) (sym c.session.view_is) c.requires.choose in
    (lit< tt, may_choose g.row.L g.row.M c.session.inside.pass _ _ _ c.number-author.ensures c.enter-inside.ensures.turn c.args.hooks.items may.author may.idle may.valid)

pub leave-requires : goal.leave-requires
leave-requires g c = (lit< tt, (lit< tt, can_leave _ c.session.inside.pass _ _ _ _ (ap (λ (t : SessionToken). t.pass.turns) c.session.view_is ∙ c.requires.turns) c.number-author.ensures c.enter-inside.ensures.pass c.enter-inside.ensures.base (chosen_one _ _ _ _ _ _ _ _ c.choose-answer.ensures)))
