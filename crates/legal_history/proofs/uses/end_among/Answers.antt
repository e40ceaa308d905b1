use Rattle.std.proofs.Common.{max, take, ap, sym, ◌∙◌}
use Rattle.history.specs.OwnEnd.{end_of, end_among, greatest_by}
use Rattle.legal_history.proofs.GreatestLaws.{greatest_more, greatest_all, greatest_none}
use Rattle.legal_history.proofs.uses.end_among.Goals as goal

pub loop-id-init : goal.loop-id-init
loop-id-init c = sym (greatest_none (end_of c.args.session))

pub loop-id-preserved : goal.loop-id-preserved
loop-id-preserved c =
    let f = end_of c.args.session in
    c.larger-end.ensures
    ∙ ap (λ n. max n c.end_of.result) c.loop-id.invariant
    ∙ ap (max (greatest_by f (take c.loop-id.id-index c.args.uses.now))) c.end_of.ensures
    ∙ sym (greatest_more f c.args.uses.now c.loop-id.id-index (record { session = 0; ordinal = 0 }) c.loop-id-test.true)

pub returns : goal.returns
unfolding end_among
returns c = c.loop-id.invariant ∙ greatest_all (end_of c.args.session) c.args.uses.now c.loop-id.id-index c.loop-id-test.false
