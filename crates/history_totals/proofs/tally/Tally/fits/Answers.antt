use Rattle.std.proofs.Common.{◌+◌, length, reverse, sym, ap, ◌∙◌, arith}
use Rattle.std.proofs.lemmas.Bool.{lt-leb}
use Rattle.std.proofs.lemmas.List.{length-reverse}
use Rattle.history_totals.specs.declared.tally.Tally.{Tally}
use Rattle.history_totals.specs.TallyOf.{tally_of}
use Rattle.history_totals.proofs.OpenLaws.{one_more_open}
use Rattle.history_totals.proofs.SumLaws.{AreWithin, are_within, within_by_weight, not_within}
use Rattle.history_totals.proofs.tally.Tally.fits.Goals as goal

pub unfinished_after-unfinished-requires-clause-agrees : goal.unfinished_after-unfinished-requires-clause-agrees
unfolding tally_of
unfinished_after-unfinished-requires-clause-agrees c = ap (λ (t : Tally). t.unfinished) c.requires.agrees

pub overflow_add-before-2 : goal.overflow_add-before-2
overflow_add-before-2 c =
    let past = reverse c.args.before.now in
    let now : AreWithin c.args.rules.now past = are_within c.args.rules.now past c.requires.legal in
    let room = now.entries in
    let more = one_more_open c.args.rules.now c.args.entry.now past c.requires.legal c.requires.allowed in
    omega (arith, room, more, c.limits_fit.ensures.entries, c.unfinished_after-unfinished.ensures, length-reverse c.args.before.now)

pub fits_weight-requires-clause-agrees : goal.fits_weight-requires-clause-agrees
unfolding tally_of
fits_weight-requires-clause-agrees c = ap (λ (t : Tally). t.weight) c.requires.agrees

pub returns-then-before-unfinished : goal.returns-then-before-unfinished
returns-then-before-unfinished c =
    c.fits_weight.ensures
    ∙ within_by_weight c.args.rules.now.limits c.args.entry.now (reverse c.args.before.now)
    (omega (arith, c.if-before-unfinished.true, c.from.ensures, c.unfinished_after-unfinished.ensures, length-reverse c.args.before.now))

pub returns-else-before-unfinished : goal.returns-else-before-unfinished
returns-else-before-unfinished c =
    lt-leb (length c.args.before.now + 1 + c.unfinished_after-unfinished.result) c.from.result c.if-before-unfinished.false
    ∙ sym (not_within c.args.rules.now.limits c.args.entry.now (reverse c.args.before.now)
    (omega (arith, c.if-before-unfinished.false, c.from.ensures, c.unfinished_after-unfinished.ensures, length-reverse c.args.before.now)))
