use Rattle.std.proofs.Common.{◌∷◌, reverse, length, sym, ap, ◌∙◌, arith}
use Rattle.std.proofs.lemmas.List.{length-reverse, reverse-reverse}
use Rattle.std.specs.List.{sum_by}
use Rattle.history_totals.specs.Parts.{bytes_at}
use Rattle.history_totals.specs.TallyOf.{commits_settled}
use Rattle.history_totals.proofs.StreamLaws.{GivesStream, TakesStream, KeepsStreams, gives, takes, keeps}
use Rattle.history_totals.proofs.SumLaws.{Follows, follows, AreSmall, are_small, few_settled}
use Rattle.history_totals.proofs.totals.bytes_after.Goals as goal

pub bytes_of-requires : goal.bytes_of-requires
bytes_of-requires c =
    let past = reverse c.args.before.now in
    let entry = c.args.entry.now in
    let next : Follows c.args.rules.now entry past = follows c.args.rules.now entry past c.requires.legal in
    let older : AreSmall past = are_small c.args.rules.now past next.legal in
    let newer : AreSmall (entry ∷ past) = are_small c.args.rules.now (entry ∷ past) c.requires.legal in
    let size = length-reverse c.args.before.now in
    let few = few_settled entry.point past in
    let same = ap length c.requires.commits in
    omega (arith, few, same, size)

pub overflow_add-result : goal.overflow_add-result
overflow_add-result c =
    let past = reverse c.args.before.now in
    let entry = c.args.entry.now in
    let next : Follows c.args.rules.now entry past = follows c.args.rules.now entry past c.requires.legal in
    let older : AreSmall past = are_small c.args.rules.now past next.legal in
    let newer : AreSmall (entry ∷ past) = are_small c.args.rules.now (entry ∷ past) c.requires.legal in
    let size = length-reverse c.args.before.now in
    let law : GivesStream entry past = gives c.args.rules.now entry past next.legal next.allowed (sym c.gives_stream.ensures ∙ c.if-gives_stream.true) in
    let moved = c.bytes_of.ensures ∙ ap (sum_by (bytes_at c.args.before.now)) c.requires.commits in
    let turned = ap (λ l. sum_by (bytes_at l) (commits_settled entry.point past)) (reverse-reverse c.args.before.now) in
    omega (arith, c.requires.agrees, law.bytes, newer.bytes, older.bytes, size, moved, turned)

pub returns-then-gives_stream : goal.returns-then-gives_stream
returns-then-gives_stream c =
    let past = reverse c.args.before.now in
    let entry = c.args.entry.now in
    let next : Follows c.args.rules.now entry past = follows c.args.rules.now entry past c.requires.legal in
    let older : AreSmall past = are_small c.args.rules.now past next.legal in
    let newer : AreSmall (entry ∷ past) = are_small c.args.rules.now (entry ∷ past) c.requires.legal in
    let size = length-reverse c.args.before.now in
    let law : GivesStream entry past = gives c.args.rules.now entry past next.legal next.allowed (sym c.gives_stream.ensures ∙ c.if-gives_stream.true) in
    let moved = c.bytes_of.ensures ∙ ap (sum_by (bytes_at c.args.before.now)) c.requires.commits in
    let turned = ap (λ l. sum_by (bytes_at l) (commits_settled entry.point past)) (reverse-reverse c.args.before.now) in
    omega (arith, c.requires.agrees, law.bytes, newer.bytes, older.bytes, size, moved, turned)

pub bytes_of-requires-then-takes_stream : goal.bytes_of-requires-then-takes_stream
bytes_of-requires-then-takes_stream c =
    let past = reverse c.args.before.now in
    let entry = c.args.entry.now in
    let next : Follows c.args.rules.now entry past = follows c.args.rules.now entry past c.requires.legal in
    let older : AreSmall past = are_small c.args.rules.now past next.legal in
    let newer : AreSmall (entry ∷ past) = are_small c.args.rules.now (entry ∷ past) c.requires.legal in
    let size = length-reverse c.args.before.now in
    let few = few_settled entry.point past in
    let same = ap length c.requires.commits in
    omega (arith, few, same, size)

pub overflow_sub-result : goal.overflow_sub-result
overflow_sub-result c =
    let past = reverse c.args.before.now in
    let entry = c.args.entry.now in
    let next : Follows c.args.rules.now entry past = follows c.args.rules.now entry past c.requires.legal in
    let older : AreSmall past = are_small c.args.rules.now past next.legal in
    let newer : AreSmall (entry ∷ past) = are_small c.args.rules.now (entry ∷ past) c.requires.legal in
    let size = length-reverse c.args.before.now in
    let law : TakesStream entry past = takes c.args.rules.now entry past next.legal next.allowed (sym c.takes_stream.ensures ∙ c.if-takes_stream.true) in
    let moved = c.bytes_of-then-takes_stream.ensures ∙ ap (sum_by (bytes_at c.args.before.now)) c.requires.commits in
    let turned = ap (λ l. sum_by (bytes_at l) (commits_settled entry.point past)) (reverse-reverse c.args.before.now) in
    omega (arith, c.requires.agrees, law.bytes, newer.bytes, older.bytes, size, moved, turned)

pub returns-then-takes_stream : goal.returns-then-takes_stream
returns-then-takes_stream c =
    let past = reverse c.args.before.now in
    let entry = c.args.entry.now in
    let next : Follows c.args.rules.now entry past = follows c.args.rules.now entry past c.requires.legal in
    let older : AreSmall past = are_small c.args.rules.now past next.legal in
    let newer : AreSmall (entry ∷ past) = are_small c.args.rules.now (entry ∷ past) c.requires.legal in
    let size = length-reverse c.args.before.now in
    let law : TakesStream entry past = takes c.args.rules.now entry past next.legal next.allowed (sym c.takes_stream.ensures ∙ c.if-takes_stream.true) in
    let moved = c.bytes_of-then-takes_stream.ensures ∙ ap (sum_by (bytes_at c.args.before.now)) c.requires.commits in
    let turned = ap (λ l. sum_by (bytes_at l) (commits_settled entry.point past)) (reverse-reverse c.args.before.now) in
    omega (arith, c.requires.agrees, law.bytes, newer.bytes, older.bytes, size, moved, turned)

pub returns : goal.returns
returns c =
    let past = reverse c.args.before.now in
    let entry = c.args.entry.now in
    let next : Follows c.args.rules.now entry past = follows c.args.rules.now entry past c.requires.legal in
    let older : AreSmall past = are_small c.args.rules.now past next.legal in
    let newer : AreSmall (entry ∷ past) = are_small c.args.rules.now (entry ∷ past) c.requires.legal in
    let size = length-reverse c.args.before.now in
    let law : KeepsStreams entry past = keeps c.args.rules.now entry past next.legal next.allowed (sym c.gives_stream.ensures ∙ c.if-gives_stream.false) (sym c.takes_stream.ensures ∙ c.if-takes_stream.false) in
    omega (arith, c.requires.agrees, law.bytes, newer.bytes, older.bytes, size)
