use Rattle.std.proofs.Common.{◌++◌, ◌∷◌, [], take, sym, ap, ◌∙◌}
use Rattle.std.proofs.lemmas.List.{take_more, take_all}
use Rattle.sparse_index.proofs.BoundLaws.{cut_more, front_whole}
use Rattle.sparse_index.proofs.list.in_front.Goals as goal

pub loop-other-init : goal.loop-other-init
loop-other-init g c = c.add.ensures ∙ ap (λ l. take g.row.L (l ++ c.args.standing ∷ [])) c.new-list.ensures

pub loop-other-preserved : goal.loop-other-preserved
loop-other-preserved g c =
    cut_more g.row.L c.loop-other.list.items _ (c.args.standing ∷ take c.loop-other.other-index c.as_slice-other-items.result.now) _ c.loop-other.invariant c.add-in-loop-other.ensures
    ∙ ap (λ l. take g.row.L (c.args.standing ∷ l)) (sym (take_more c.as_slice-other-items.result.now c.loop-other.other-index _ c.loop-other-test.true))

pub returns : goal.returns
returns g c =
    c.loop-other.invariant
    ∙ ap (λ l. take g.row.L (c.args.standing ∷ l)) (take_all c.loop-other.other-index c.as_slice-other-items.result.now c.loop-other-test.false ∙ c.as_slice-other-items.ensures.value)
    ∙ front_whole g.row.L c.args.standing c.args.stood.now.items
