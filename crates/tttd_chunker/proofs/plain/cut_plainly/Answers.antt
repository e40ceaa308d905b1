use Rattle.std.proofs.Common.{◌≡◌, ◌<◌, ◌-◌, ◌++◌, ◌∷◌, [], map, length, take, drop, sym, ap, ◌∙◌, arith, length-drop, append-nil}
use Rattle.std.proofs.lemmas.Bool.{eqb-true, eqb-false}
use Rattle.std.proofs.lemmas.List.{map-append, take_all, nil_from_length}
use Rattle.tttd_chunker.specs.Cut.{cut}
use Rattle.tttd_chunker.proofs.CutLaws.{cut-advance, cut-nil}
use Rattle.tttd_chunker.proofs.plain.cut_plainly.Goals as goal

pub loop-rest-preserved : goal.loop-rest-preserved
loop-rest-preserved c =
    let n = c.numbers-numbers.result in
    let rest = c.loop-rest.rest.now in
    let k = c.first_cut-len.result in
    let before = map (λ v. v.items) c.loop-rest.chunks.items in
    let some : 0 < length rest = grind (arith, eqb-false) in
    let chunks : map (λ v. v.items) c.push.new.self.items ≡ before ++ take k rest ∷ [] =
    ap (map (λ v. v.items)) c.in_ok-push.ensures.items
    ∙ map-append (λ v. v.items) c.loop-rest.chunks.items (c.in_ok-to_vec.field-0 ∷ [])
    ∙ ap (λ items. before ++ items ∷ []) (c.in_ok-to_vec.ensures.items_if_clones_equal (λ x y e. e)) in
    let left : take (length rest - k) (drop k rest) ≡ drop k rest = take_all (length rest - k) (drop k rest) (omega (arith, length-drop k rest)) in
    ap (λ cs. cs ++ cut n (take (length rest - k) (drop k rest))) chunks
    ∙ ap (λ r. (before ++ take k rest ∷ []) ++ cut n r) left
    ∙ cut-advance n before (cut n c.args.bytes.now) rest k c.numbers-numbers.ensures.sound some c.first_cut-len.ensures.value c.loop-rest.invariant

pub returns : goal.returns
returns c =
    let n = c.numbers-numbers.result in
    let rest = c.loop-rest.rest.now in
    let before = map (λ v. v.items) c.loop-rest.chunks.items in
    let empty : rest ≡ [] = nil_from_length rest (eqb-true (length rest) 0 (sym c.is_empty.ensures ∙ c.loop-rest-test.false)) in
    sym (append-nil before)
    ∙ ap (λ cs. before ++ cs) (sym (ap (cut n) empty ∙ cut-nil n))
    ∙ c.loop-rest.invariant
    ∙ ap (λ m. cut m c.args.bytes.now) c.numbers-numbers.ensures.table
