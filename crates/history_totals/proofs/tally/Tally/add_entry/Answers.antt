use Rattle.std.proofs.Common.{◌≡◌, ◌+◌, ◌∷◌, max, reverse, sym, ap, ◌∙◌, arith}
use Rattle.std.proofs.lemmas.List.{length-reverse}
use Rattle.journal_entry.specs.Weight.{weight}
use Rattle.history_totals.specs.declared.tally.Tally.{Tally}
use Rattle.history_totals.specs.TallyOf.{next_author, tally_of}
use Rattle.history_totals.proofs.SumLaws.{Follows, follows, weight_more, author_more}
use Rattle.history_totals.proofs.tally.Tally.add_entry.Goals as goal

pub totals_after-self-requires-clause-few : goal.totals_after-self-requires-clause-few
totals_after-self-requires-clause-few c =
    let past = reverse c.args.before.now in
    let entry = c.args.entry.now in
    let next : Follows c.args.rules.now entry past = follows c.args.rules.now entry past c.requires.legal in
    let few = next.entries in
    omega (arith, few, c.limits_fit.ensures.entries, length-reverse c.args.before.now)

pub totals_after-self-requires-clause-agrees : goal.totals_after-self-requires-clause-agrees
unfolding tally_of
totals_after-self-requires-clause-agrees c =
    ap (λ (t : Tally). t.totals) c.requires.agrees

pub overflow_cast-self : goal.overflow_cast-self
overflow_cast-self c =
    let past = reverse c.args.before.now in
    let entry = c.args.entry.now in
    let next : Follows c.args.rules.now entry past = follows c.args.rules.now entry past c.requires.legal in
    let heavy = next.heavy in
    omega (arith, heavy, c.limits_fit.ensures.weight, c.point_weight.ensures)

pub overflow_add-self : goal.overflow_add-self
unfolding tally_of
overflow_add-self c =
    let past = reverse c.args.before.now in
    let entry = c.args.entry.now in
    let next : Follows c.args.rules.now entry past = follows c.args.rules.now entry past c.requires.legal in
    let heavy = next.heavy in
    let older = ap (λ (t : Tally). t.weight) c.requires.agrees in
    omega (arith, heavy, older, c.limits_fit.ensures.weight, c.point_weight.ensures)

pub unfinished_after-requires-clause-legal : goal.unfinished_after-requires-clause-legal
unfinished_after-requires-clause-legal c =
    let past = reverse c.args.before.now in
    let entry = c.args.entry.now in
    let next : Follows c.args.rules.now entry past = follows c.args.rules.now entry past c.requires.legal in
    next.legal

pub unfinished_after-requires-clause-allowed : goal.unfinished_after-requires-clause-allowed
unfinished_after-requires-clause-allowed c =
    let past = reverse c.args.before.now in
    let entry = c.args.entry.now in
    let next : Follows c.args.rules.now entry past = follows c.args.rules.now entry past c.requires.legal in
    next.allowed

pub unfinished_after-requires-clause-agrees : goal.unfinished_after-requires-clause-agrees
unfolding tally_of
unfinished_after-requires-clause-agrees c =
    ap (λ (t : Tally). t.unfinished) c.requires.agrees

pub overflow_cast-self-2 : goal.overflow_cast-self-2
overflow_cast-self-2 c =
    let past = reverse c.args.before.now in
    let entry = c.args.entry.now in
    let next : Follows c.args.rules.now entry past = follows c.args.rules.now entry past c.requires.legal in
    let few = next.entries in
    omega (arith, few, c.limits_fit.ensures.entries, c.unfinished_after.ensures)

pub returns-clause-agrees : goal.returns-clause-agrees
unfolding tally_of
returns-clause-agrees c =
    let past = reverse c.args.before.now in
    let entry = c.args.entry.now in
    let older = c.requires.agrees in
    let heavier : c.args.self.now.weight + c.point_weight.result ≡ weight (entry ∷ past) =
    let before = ap (λ (t : Tally). t.weight) older in
    let more = weight_more entry past in
    omega (arith, before, more, c.point_weight.ensures) in
    let later : c.later_author-self.result ≡ next_author (entry ∷ past) =
    c.later_author-self.ensures ∙ ap (λ n. max (entry.author + 1) n) (ap (λ (t : Tally). t.next_author) older) ∙ sym (author_more entry past) in
    λ i. record {
      totals = c.totals_after-self.ensures.sums i;
      weight = heavier i;
      unfinished = c.unfinished_after.ensures i;
      next_author = later i;
    }
