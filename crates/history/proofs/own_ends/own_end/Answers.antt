use Rattle.std.proofs.Common.{max, take, ap, sym, ◌∙◌}
use Rattle.journal_entry.specs.declared.entry.Entry.{Entry}
use Rattle.history.specs.OwnEnd.{end_used, own_end, greatest_by}
use Rattle.history.proofs.Greatest.{greatest_more, greatest_all, greatest_none, greatest-reverse}
use Rattle.history.proofs.own_ends.own_end.Goals as goal

pub loop-entry-init : goal.loop-entry-init
loop-entry-init c = sym (greatest_none (λ (entry : Entry). end_used c.args.session entry.point))

pub loop-entry-preserved : goal.loop-entry-preserved
loop-entry-preserved c =
    let f = λ (entry : Entry). end_used c.args.session entry.point in
    let entry = c.entry-item.result in
    c.larger-end.ensures
    ∙ ap (λ n. max n c.end_used.result) c.loop-entry.invariant
    ∙ ap (max (greatest_by f (take c.loop-entry.entry-index c.args.entries.now))) (c.end_used.ensures ∙ ap f c.entry-item.is)
    ∙ sym (greatest_more f c.args.entries.now c.loop-entry.entry-index entry c.loop-entry-test.true)

pub returns : goal.returns
unfolding own_end
returns c =
    let f = λ (entry : Entry). end_used c.args.session entry.point in
    c.loop-entry.invariant
    ∙ greatest_all f c.args.entries.now c.loop-entry.entry-index c.loop-entry-test.false
    ∙ sym (greatest-reverse f c.args.entries.now)
