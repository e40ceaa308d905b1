use Rattle.std.proofs.Common.{sym, ap, ◌∙◌, subst, lit<, refl}
use Rattle.journal_entry.specs.declared.entry.Point.TheVariants.{Done}
use Rattle.store_core.specs.View.{made, Adds}
use Rattle.history_calls.specs.ReadingSteps.{CanEnd}
use Rattle.store_shared.specs.Tokens.{ReadingToken, reading_of}
use Rattle.store_shared.proofs.TookLaws.{added_one, can_leave, token_took}
use Rattle.store_shared.proofs.MayLaws.{may_end}
use Rattle.store_shared.proofs.store.Store.done.Goals as goal

pub done-requires : goal.done-requires
done-requires g c =
    let may = subst (λ (t : ReadingToken). CanEnd (reading_of t)) (sym c.reading.view_is) c.requires.end in
    (lit< tt, may_end g.row.L g.row.M c.reading.inside.pass _ _ _ c.number-author.ensures c.enter-inside.ensures.turn may.unfinished may.author)

pub leave-requires : goal.leave-requires
leave-requires g c = (lit< tt, (lit< tt, can_leave _ c.reading.inside.pass _ _ _ _ (ap (λ (t : ReadingToken). t.pass.turns) c.reading.view_is ∙ c.requires.turns) c.number-author.ensures c.enter-inside.ensures.pass c.enter-inside.ensures.base (added_one _ _ _ _ refl c.done.ensures)))

pub returns : goal.returns
returns g c =
    token_took g.row.L g.row.M c.reading.inside.pass _ _ _ _ _ c.number-author.ensures c.enter-inside.ensures.pass c.enter-inside.ensures.turn c.leave.ensures.pass c.leave.ensures.seen
    c.args.reading.pass c.reading.inside.looked.reader c.args.reading.looked.reader (λ a s turn after. Adds turn after (made a (Done s)))
    (ap (λ (t : ReadingToken). t.pass) c.reading.view_is) (ap (λ (t : ReadingToken). t.looked.reader) c.reading.view_is) c.done.ensures
