use Rattle.std.proofs.Common.{sym, ap, ◌∙◌, subst, lit<, refl}
use Rattle.journal_entry.specs.declared.entry.Point.TheVariants.{Abort}
use Rattle.store_core.specs.View.{made, Adds}
use Rattle.history_calls.specs.SessionSteps.{CanAbort}
use Rattle.store_shared.specs.Tokens.{SessionToken, open_of}
use Rattle.store_shared.proofs.TookLaws.{added_one, can_leave, token_took}
use Rattle.store_shared.proofs.MayLaws.{may_abort}
use Rattle.store_shared.proofs.store.Store.abort.Goals as goal

pub abort-requires : goal.abort-requires
abort-requires g c =
    let may = subst (λ (t : SessionToken). CanAbort (open_of t) c.args.containers c.args.texts) (sym c.session.view_is) c.requires.abort in
    (lit< tt, may_abort g.row.L g.row.M c.session.inside.pass _ _ _ c.number-author.ensures c.enter-inside.ensures.turn c.args.containers c.args.texts may.author may.above may.written)

pub leave-requires : goal.leave-requires
leave-requires g c = (lit< tt, (lit< tt, can_leave _ c.session.inside.pass _ _ _ _ (ap (λ (t : SessionToken). t.pass.turns) c.session.view_is ∙ c.requires.turns) c.number-author.ensures c.enter-inside.ensures.pass c.enter-inside.ensures.base (added_one _ _ _ _ refl c.abort.ensures)))

pub returns : goal.returns
returns g c =
    token_took g.row.L g.row.M c.session.inside.pass _ _ _ _ _ c.number-author.ensures c.enter-inside.ensures.pass c.enter-inside.ensures.turn c.leave.ensures.pass c.leave.ensures.seen
    c.args.session.pass c.session.inside.number c.args.session.session (λ a s turn after. Adds turn after (made a (Abort s c.args.containers c.args.texts)))
    (ap (λ (t : SessionToken). t.pass) c.session.view_is) (ap (λ (t : SessionToken). t.session) c.session.view_is) c.abort.ensures
