use Rattle.std.proofs.Common.{◌<◌, length, arith, ap, sym, ◌∙◌, ◌++◌, ◌∷◌, []}
use Rattle.std.proofs.lemmas.List.{length-map, map-append, take_more}
use Rattle.champion_choice.specs.Lists.{shown, standings}
use Rattle.champion_choice.proofs.ListLaws.{item_at}
use Rattle.champion_choice.proofs.choice.slices_of.Goals as goal

pub loop-list-preserved : goal.loop-list-preserved
loop-list-preserved c =
    let all = standings c.args.lists.now in
    let i = c.loop-list.list-index in
    let same = item_at c.args.lists.now i c.list-item.result c.as_slice.result.now c.as_slice.ensures.value c.list-item.is in
    let below : i < length all = omega (arith, length-map c.args.lists.now (λ v. v.items)) in
    ap shown c.in_ok-push.ensures.items
    ∙ map-append (λ l. l.now) c.loop-list.slices.items (c.as_slice.result ∷ [])
    ∙ (λ j. c.loop-list.invariant j ++ (same j ∷ []))
    ∙ sym (take_more all i c.list-item.result.items below)
