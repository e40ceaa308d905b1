use Rattle.std.proofs.Common.{◌≡◌, ◌+◌, ◌∷◌, reverse, ap, arith}
use Rattle.std.proofs.lemmas.List.{length-reverse}
use Rattle.journal_entry.specs.declared.entry.Totals.{Totals}
use Rattle.history.specs.TotalsOf.{totals}
use Rattle.history_totals.proofs.SumLaws.{containers_more, entries_are}
use Rattle.history_totals.proofs.totals.totals_after.Goals as goal

pub overflow_add-result : goal.overflow_add-result
overflow_add-result c =
    let past = reverse c.args.before.now in
    let entries = ap (λ (t : Totals). t.entries) c.requires.agrees in
    let count = entries_are past in
    omega (arith, entries, count, length-reverse c.args.before.now)

pub overflow_add-result-2 : goal.overflow_add-result-2
overflow_add-result-2 c =
    let past = reverse c.args.before.now in
    let entries = ap (λ (t : Totals). t.entries) c.requires.agrees in
    let count = entries_are past in
    omega (arith, entries, count, length-reverse c.args.before.now)

pub returns-clause-sums : goal.returns-clause-sums
returns-clause-sums c =
    let past = reverse c.args.before.now in
    let entry = c.args.entry.now in
    let older = c.requires.agrees in
    let stored : c.args.so_far.containers + c.from.result ≡ (totals (entry ∷ past)).containers =
    let same = ap (λ (t : Totals). t.containers) older in
    let more = containers_more entry past in
    omega (arith, same, more, c.from.ensures, c.containers_closed.ensures) in
    let counted : c.args.so_far.entries + 1 ≡ (totals (entry ∷ past)).entries =
    let same = ap (λ (t : Totals). t.entries) older in
    let before = entries_are past in
    let after = entries_are (entry ∷ past) in
    omega (arith, same, before, after) in
    λ i. record {
      streams = c.streams_after.ensures i;
      bytes = c.bytes_after.ensures i;
      fresh = c.fresh_after.ensures i;
      containers = stored i;
      reclaimed = c.reclaimed_after.ensures i;
      entries = counted i;
    }
