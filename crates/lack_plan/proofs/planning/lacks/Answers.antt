use Rattle.std.proofs.Common.{◌≡◌, ◌+◌, ◌<◌, List, [], ◌∷◌, ◌++◌, map, length, take, get_or, sym, subst, arith}
use Rattle.std.proofs.lemmas.List.{take_more, take_all, length-take}
use Rattle.manifest_codec.specs.declared.manifest.Manifest.{Manifest}
use Rattle.ss_base.specs.declared.name.Piece.{Piece}
use Rattle.lack_plan.specs.Plan.{AreOrigins}
use Rattle.lack_plan.specs.Maps.{HasPlaces}
use Rattle.lack_plan.proofs.FreshLaws.{fresh-places}
use Rattle.lack_plan.proofs.OriginLaws.{origins-only}
use Rattle.lack_plan.proofs.MapLaws.{origins-push}
use Rattle.lack_plan.proofs.planning.lacks.Goals as goal

pub loop-at-preserved : goal.loop-at-preserved
loop-at-preserved c =
    let at = c.loop-at.at in
    let pieces = c.args.pieces.now in
    let lists : List (List Piece) = map (λ (m : Manifest). m.pieces.items) c.args.champions.now in
    let nothing : Piece = record { name = record { 0 = [] }; len = 0 } in
    let p = get_or pieces at nothing in
    let lt : at < length pieces = c.loop-at-test.true in
    let before = take at pieces in
    let more : take (at + 1) pieces ≡ before ++ p ∷ [] = take_more pieces at nothing lt in
    let place : length before ≡ at = (let size = length-take at pieces in omega (arith, size, lt)) in
    let has = c.loop-at.invariant in
    record {
      origins = subst (λ os. AreOrigins (take (at + 1) pieces) lists os) (sym c.in_ok-push.ensures.items)
          (subst (λ ps. AreOrigins ps lists (c.loop-at.origins.items ++ c.in_ok-origin.origin ∷ [])) (sym more)
          (origins-push before lists c.loop-at.origins.items p c.in_ok-origin.origin has.origins (c.in_ok-origin.ensures.origin before lists has.places c.in_ok-known.ensures)));
      places = subst (λ ps. HasPlaces ps c.origin_of.new.earlier) (sym more) (c.in_ok-origin.ensures.places before place has.places);
    }

pub returns-clause-fresh : goal.returns-clause-fresh
returns-clause-fresh c =
    let lists : List (List Piece) = map (λ (m : Manifest). m.pieces.items) c.args.champions.now in
    let all : take c.loop-at.at c.args.pieces.now ≡ c.args.pieces.now = take_all c.loop-at.at c.args.pieces.now c.loop-at-test.false in
    fresh-places c.args.pieces.now lists c.loop-at.origins.items (subst (λ ps. AreOrigins ps lists c.loop-at.origins.items) all c.loop-at.invariant.origins)

pub returns-clause-all : goal.returns-clause-all
returns-clause-all c =
    let lists : List (List Piece) = map (λ (m : Manifest). m.pieces.items) c.args.champions.now in
    let all : take c.loop-at.at c.args.pieces.now ≡ c.args.pieces.now = take_all c.loop-at.at c.args.pieces.now c.loop-at-test.false in
    origins-only c.args.pieces.now lists c.loop-at.origins.items (subst (λ ps. AreOrigins ps lists c.loop-at.origins.items) all c.loop-at.invariant.origins)
