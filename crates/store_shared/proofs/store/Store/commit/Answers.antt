use Rattle.std.proofs.Common.{sym, ap, ◌∙◌, subst, lit<}
use Rattle.history_calls.specs.SessionSteps.{CanCommit}
use Rattle.store_shared.specs.Tokens.{SessionToken, ChosenToken, chosen_of}
use Rattle.store_shared.proofs.TookLaws.{committed_one, can_leave}
use Rattle.store_shared.proofs.MayLaws.{may_commit}
use Rattle.store_shared.proofs.store.Store.commit.Goals as goal

pub commit-answer-requires : goal.commit-answer-requires
commit-answer-requires g c =
    let chosen = subst (λ (t : ChosenToken). CanCommit (chosen_of t) c.args.stored c.args.written) (sym c.chosen.view_is) c.requires.commit in
    let may = subst (λ (t : SessionToken). CanCommit (chosen_of (record { pass = t.pass; session = t.session; choice = c.chosen.inside.choice })) c.args.stored c.args.written) (sym c.session.view_is) chosen in
    (lit< tt, may_commit g.row.L g.row.M c.session.inside.pass _ _ _ c.number-author.ensures c.enter-inside.ensures.turn _ c.args.stored.uses.items may.author may.waiting may.counts may.uses)

pub leave-requires : goal.leave-requires
leave-requires g c = (lit< tt, (lit< tt, can_leave _ c.session.inside.pass _ _ _ _ (ap (λ (t : SessionToken). t.pass.turns) c.session.view_is ∙ (ap (λ (t : ChosenToken). t.pass.turns) c.chosen.view_is ∙ c.requires.turns)) c.number-author.ensures c.enter-inside.ensures.pass c.enter-inside.ensures.base (committed_one _ _ _ _ c.args.stored _ c.commit-answer.ensures)))
