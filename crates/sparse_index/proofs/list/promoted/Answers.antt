use Rattle.std.proofs.Common.{◌≤◌, ◌++◌, None, Some, cond, length, take, get_or, sym, ap, ◌∙◌, arith}
use Rattle.std.specs.Option.{option_to_list}
use Rattle.std.proofs.lemmas.List.{take_all, append-nil, append_assoc}
use Rattle.ss_base.specs.declared.ids.ManifestId.{ManifestId}
use Rattle.ss_base.specs.declared.ids.Standing.{Standing}
use Rattle.ss_base.specs.Standings.{standing_of, chosen_standings, others_standing}
use Rattle.sparse_index.proofs.BoundLaws.{cut_more, take_none, promoted_whole, chosen_more, others_more, chosen_none, others_none}
use Rattle.sparse_index.proofs.list.promoted.Goals as goal

pub loop-id-init : goal.loop-id-init
loop-id-init g c = c.new-list.ensures ∙ take_none g.row.L ∙ ap (λ l. take g.row.L l) (sym (chosen_none c.args.stood.now.items))

pub loop-id-preserved : goal.loop-id-preserved
loop-id-preserved g c =
    let ids = c.args.champions.now in
    let stood = c.args.stood.now.items in
    let i = c.loop-id.id-index in
    let d : ManifestId = record { session = 0; seq = 0 } in
    cut_more g.row.L c.loop-id.list.items _ (chosen_standings (take i ids) stood) _ c.loop-id.invariant c.add.ensures
    ∙ ap (λ o. take g.row.L (chosen_standings (take i ids) stood ++ option_to_list o)) (c.standing_of.ensures ∙ ap (λ l. standing_of (get_or ids i d) l) c.as_slice.ensures.value)
    ∙ ap (λ l. take g.row.L l) (sym (chosen_more ids stood i d c.loop-id-test.true))

pub loop-standing-init : goal.loop-standing-init
loop-standing-init g c =
    let ids = c.args.champions.now in
    let stood = c.args.stood.now.items in
    c.loop-id.invariant
    ∙ ap (λ l. take g.row.L (chosen_standings l stood)) (take_all c.loop-id.id-index ids c.loop-id-test.false)
    ∙ ap (λ l. take g.row.L l) (sym (append-nil (chosen_standings ids stood)) ∙ ap (λ l. chosen_standings ids stood ++ l) (sym (others_none ids)))

pub loop-standing-preserved : goal.loop-standing-preserved
loop-standing-preserved g c =
    let ids = c.args.champions.now in
    let stood = c.as_slice-standing-items.result.now in
    let front = chosen_standings ids c.args.stood.now.items in
    let i = c.loop-standing.standing-index in
    let d : Standing = record { id = record { session = 0; seq = 0 }; stamp = 0 } in
    cut_more g.row.L c.loop-standing.list.items _ (front ++ others_standing ids (take i stood)) _ c.loop-standing.invariant c.add-in-loop-standing.ensures
    ∙ ap (λ l. take g.row.L l) (append_assoc front (others_standing ids (take i stood)) (option_to_list c.unless.result))
    ∙ ap (λ o. take g.row.L (front ++ (others_standing ids (take i stood) ++ option_to_list o))) (c.unless.ensures ∙ ap (λ b. cond b None (Some (get_or stood i d))) c.has_manifest.ensures)
    ∙ ap (λ l. take g.row.L (front ++ l)) (sym (others_more ids stood i d c.loop-standing-test.true))

pub returns : goal.returns
returns g c =
    let ids = c.args.champions.now in
    let stood = c.args.stood.now.items in
    let fits : length stood ≤ g.row.L = let f = c.as_slice-standing-items.ensures.fits in let e = ap length c.as_slice-standing-items.ensures.value in omega (arith, f, e) in
    c.loop-standing.invariant
    ∙ ap (λ l. take g.row.L (chosen_standings ids stood ++ others_standing ids l)) (take_all c.loop-standing.standing-index c.as_slice-standing-items.result.now c.loop-standing-test.false ∙ c.as_slice-standing-items.ensures.value)
    ∙ promoted_whole g.row.L ids stood c.requires fits
