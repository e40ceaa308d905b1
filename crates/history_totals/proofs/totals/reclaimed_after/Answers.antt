use Rattle.std.proofs.Common.{◌∷◌, reverse, arith}
use Rattle.std.proofs.lemmas.List.{length-reverse}
use Rattle.history_totals.proofs.SumLaws.{Follows, follows, AreSmall, are_small, reclaimed_more}
use Rattle.history_totals.proofs.totals.reclaimed_after.Goals as goal

pub overflow_add-result : goal.overflow_add-result
overflow_add-result c =
    let past = reverse c.args.before.now in
    let entry = c.args.entry.now in
    let next : Follows c.args.rules.now entry past = follows c.args.rules.now entry past c.requires.legal in
    let older : AreSmall past = are_small c.args.rules.now past next.legal in
    let newer : AreSmall (entry ∷ past) = are_small c.args.rules.now (entry ∷ past) c.requires.legal in
    let size = length-reverse c.args.before.now in
    let law = reclaimed_more entry past in
    omega (arith, c.requires.agrees, law, newer.reclaimed, size, c.objects_named.ensures)

pub returns : goal.returns
returns c =
    let past = reverse c.args.before.now in
    let entry = c.args.entry.now in
    let next : Follows c.args.rules.now entry past = follows c.args.rules.now entry past c.requires.legal in
    let older : AreSmall past = are_small c.args.rules.now past next.legal in
    let newer : AreSmall (entry ∷ past) = are_small c.args.rules.now (entry ∷ past) c.requires.legal in
    let size = length-reverse c.args.before.now in
    let law = reclaimed_more entry past in
    omega (arith, c.requires.agrees, law, newer.reclaimed, size, c.objects_named.ensures)
