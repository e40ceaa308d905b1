use Rattle.std.proofs.Common.{◌≡◌, ◌+◌, ◌<◌, ◌≤◌, List, [], ◌∷◌, ◌++◌, map, length, take, get_or, sym, subst, ap, ◌∙◌, arith}
use Rattle.std.proofs.lemmas.List.{take_more, take_all, length-take, length-map}
use Rattle.manifest_codec.specs.declared.manifest.Manifest.{Manifest}
use Rattle.ss_base.specs.declared.name.Piece.{Piece}
use Rattle.lack_plan.specs.Maps.{KnowsPieces}
use Rattle.std.proofs.Math.ListN.{get_or-map}
use Rattle.lack_plan.proofs.known.champion_places.Goals as goal

pub loop-which-preserved : goal.loop-which-preserved
loop-which-preserved c =
    let f = λ (m : Manifest). m.pieces.items in
    let champions = c.args.champions.now in
    let lists : List (List Piece) = map f champions in
    let which = c.loop-which.which in
    let champion = c.index-champions-which.result in
    let size : length lists ≡ length champions = length-map champions f in
    let lt : which < length lists = (let test = c.loop-which-test.true in omega (arith, size, test)) in
    let count : length (take which lists) ≡ which = (let front = length-take which lists in omega (arith, front, lt)) in
    let item : get_or lists which (f champion) ≡ c.deref.result.now = get_or-map f champions which champion ∙ ap f (sym c.index-champions-which.is) ∙ sym c.deref.ensures.value in
    let more : take (which + 1) lists ≡ take which lists ++ c.deref.result.now ∷ [] = take_more lists which (f champion) lt ∙ ap (λ ps. take which lists ++ ps ∷ []) item in
    subst (λ ls. KnowsPieces ls c.add_list.new.places) (sym more) (c.in_ok-add_list.ensures (take which lists) count c.loop-which.invariant)

pub returns : goal.returns
returns c =
    let f = λ (m : Manifest). m.pieces.items in
    let lists : List (List Piece) = map f c.args.champions.now in
    let size : length lists ≡ length c.args.champions.now = length-map c.args.champions.now f in
    let high : length lists ≤ c.loop-which.which = (let test = c.loop-which-test.false in omega (arith, size, test)) in
    subst (λ ls. KnowsPieces ls c.loop-which.places) (take_all c.loop-which.which lists high) c.loop-which.invariant
