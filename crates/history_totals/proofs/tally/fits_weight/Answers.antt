use Rattle.std.proofs.Common.{◌∷◌, reverse, arith}
use Rattle.journal_entry.specs.Weight.{weight}
use Rattle.history_totals.proofs.SumLaws.{AreWithin, are_within, weight_more, left_test}
use Rattle.history_totals.proofs.tally.fits_weight.Goals as goal

pub overflow_sub-result : goal.overflow_sub-result
overflow_sub-result c =
    let now : AreWithin c.args.rules.now (reverse c.args.before.now) = are_within c.args.rules.now (reverse c.args.before.now) c.requires.legal in
    let heavy = now.heavy in
    omega (arith, heavy, c.requires.agrees)

pub returns : goal.returns
returns c =
    let past = reverse c.args.before.now in
    let entry = c.args.entry.now in
    let now : AreWithin c.args.rules.now past = are_within c.args.rules.now past c.requires.legal in
    let heavy = now.heavy in
    let more = weight_more entry past in
    left_test c.point_weight.result c.args.so_far (weight (entry ∷ past)) c.args.rules.now.limits.weight (omega (arith, more, c.requires.agrees, c.point_weight.ensures)) (omega (arith, heavy, c.requires.agrees))
