use Rattle.std.proofs.Common.{◌∷◌, reverse, sym, ◌∙◌, arith}
use Rattle.std.proofs.lemmas.List.{length-reverse}
use Rattle.history_totals.proofs.StreamLaws.{GivesStream, TakesStream, KeepsStreams, gives, takes, keeps}
use Rattle.history_totals.proofs.SumLaws.{Follows, follows, AreSmall, are_small}
use Rattle.history_totals.proofs.totals.streams_after.Goals as goal

pub overflow_add-result : goal.overflow_add-result
overflow_add-result c =
    let past = reverse c.args.before.now in
    let entry = c.args.entry.now in
    let next : Follows c.args.rules.now entry past = follows c.args.rules.now entry past c.requires.legal in
    let older : AreSmall past = are_small c.args.rules.now past next.legal in
    let newer : AreSmall (entry ∷ past) = are_small c.args.rules.now (entry ∷ past) c.requires.legal in
    let size = length-reverse c.args.before.now in
    let law : GivesStream entry past = gives c.args.rules.now entry past next.legal next.allowed (sym c.gives_stream.ensures ∙ c.if-gives_stream.true) in
    omega (arith, c.requires.agrees, law.streams, newer.streams, older.streams, size)

pub returns-then-gives_stream : goal.returns-then-gives_stream
returns-then-gives_stream c =
    let past = reverse c.args.before.now in
    let entry = c.args.entry.now in
    let next : Follows c.args.rules.now entry past = follows c.args.rules.now entry past c.requires.legal in
    let older : AreSmall past = are_small c.args.rules.now past next.legal in
    let newer : AreSmall (entry ∷ past) = are_small c.args.rules.now (entry ∷ past) c.requires.legal in
    let size = length-reverse c.args.before.now in
    let law : GivesStream entry past = gives c.args.rules.now entry past next.legal next.allowed (sym c.gives_stream.ensures ∙ c.if-gives_stream.true) in
    omega (arith, c.requires.agrees, law.streams, newer.streams, older.streams, size)

pub overflow_sub-result : goal.overflow_sub-result
overflow_sub-result c =
    let past = reverse c.args.before.now in
    let entry = c.args.entry.now in
    let next : Follows c.args.rules.now entry past = follows c.args.rules.now entry past c.requires.legal in
    let older : AreSmall past = are_small c.args.rules.now past next.legal in
    let newer : AreSmall (entry ∷ past) = are_small c.args.rules.now (entry ∷ past) c.requires.legal in
    let size = length-reverse c.args.before.now in
    let law : TakesStream entry past = takes c.args.rules.now entry past next.legal next.allowed (sym c.takes_stream.ensures ∙ c.if-takes_stream.true) in
    omega (arith, c.requires.agrees, law.streams, newer.streams, older.streams, size)

pub returns-then-takes_stream : goal.returns-then-takes_stream
returns-then-takes_stream c =
    let past = reverse c.args.before.now in
    let entry = c.args.entry.now in
    let next : Follows c.args.rules.now entry past = follows c.args.rules.now entry past c.requires.legal in
    let older : AreSmall past = are_small c.args.rules.now past next.legal in
    let newer : AreSmall (entry ∷ past) = are_small c.args.rules.now (entry ∷ past) c.requires.legal in
    let size = length-reverse c.args.before.now in
    let law : TakesStream entry past = takes c.args.rules.now entry past next.legal next.allowed (sym c.takes_stream.ensures ∙ c.if-takes_stream.true) in
    omega (arith, c.requires.agrees, law.streams, newer.streams, older.streams, size)

pub returns : goal.returns
returns c =
    let past = reverse c.args.before.now in
    let entry = c.args.entry.now in
    let next : Follows c.args.rules.now entry past = follows c.args.rules.now entry past c.requires.legal in
    let older : AreSmall past = are_small c.args.rules.now past next.legal in
    let newer : AreSmall (entry ∷ past) = are_small c.args.rules.now (entry ∷ past) c.requires.legal in
    let size = length-reverse c.args.before.now in
    let law : KeepsStreams entry past = keeps c.args.rules.now entry past next.legal next.allowed (sym c.gives_stream.ensures ∙ c.if-gives_stream.false) (sym c.takes_stream.ensures ∙ c.if-takes_stream.false) in
    omega (arith, c.requires.agrees, law.streams, newer.streams, older.streams, size)
