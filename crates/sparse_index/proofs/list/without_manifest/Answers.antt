use Rattle.std.proofs.Common.{◌≤◌, ◌++◌, None, Some, cond, length, take, get_or, sym, ap, ◌∙◌, arith}
use Rattle.std.specs.Option.{option_to_list}
use Rattle.std.proofs.lemmas.List.{take_all}
use Rattle.ss_base.specs.declared.ids.Standing.{Standing}
use Rattle.ss_base.specs.Standings.{without_manifest}
use Rattle.sparse_index.proofs.BoundLaws.{cut_more, take_none, without_none, without_whole, without_manifest_more}
use Rattle.sparse_index.proofs.list.without_manifest.Goals as goal

pub loop-standing-init : goal.loop-standing-init
loop-standing-init g c = c.new-list.ensures ∙ take_none g.row.L ∙ ap (λ l. take g.row.L l) (sym (without_none c.args.id))

pub loop-standing-preserved : goal.loop-standing-preserved
loop-standing-preserved g c =
    let stood = c.as_slice-standing-items.result.now in
    let i = c.loop-standing.standing-index in
    let d : Standing = record { id = record { session = 0; seq = 0 }; stamp = 0 } in
    cut_more g.row.L c.loop-standing.list.items _ (without_manifest c.args.id (take i stood)) _ c.loop-standing.invariant c.add.ensures
    ∙ ap (λ o. take g.row.L (without_manifest c.args.id (take i stood) ++ option_to_list o)) (c.unless.ensures ∙ ap (λ b. cond b None (Some (get_or stood i d))) c.same_manifest.ensures)
    ∙ ap (λ l. take g.row.L l) (sym (without_manifest_more c.args.id stood i d c.loop-standing-test.true))

pub returns : goal.returns
returns g c =
    let fits : length c.args.stood.now.items ≤ g.row.L = let f = c.as_slice-standing-items.ensures.fits in let e = ap length c.as_slice-standing-items.ensures.value in omega (arith, f, e) in
    c.loop-standing.invariant
    ∙ ap (λ l. take g.row.L (without_manifest c.args.id l)) (take_all c.loop-standing.standing-index c.as_slice-standing-items.result.now c.loop-standing-test.false ∙ c.as_slice-standing-items.ensures.value)
    ∙ without_whole g.row.L c.args.id c.args.stood.now.items fits
