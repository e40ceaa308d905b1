use Rattle.std.proofs.Common.{◌∙◌, refl, sym, subst, Option, List}
use Rattle.champion_choice.specs.declared.score.Score.{Score}
use Rattle.champion_choice.specs.Scores.{PlaceMap, ArePlaces, HasNoPlace}
use Rattle.champion_choice.proofs.PlaceLaws.{searched_told, mapped_told, place_told}
use Rattle.champion_choice.proofs.places.place_of.Goals as goal

pub returns-in_ok-insert-clause-places : goal.returns-in_ok-insert-clause-places
returns-in_ok-insert-clause-places c =
    let w : Score = record { id = c.args.standing.id; stamp = c.args.standing.stamp; hooks = 0 } in
    mapped_told c.args.scores.now.items c.args.standing w refl c.in-Some-places.map c.insert.new.self c.len-place.result c.push.new.self.items
    (subst (λ (o : Option PlaceMap). ArePlaces o c.args.scores.now.items) c.in-Some-places.is c.requires)
    (subst (λ (m : List Score). HasNoPlace m c.args.standing.id) c.as_slice.ensures.value c.in_default.ensures.none)
    (c.len-place.ensures ∙ c.args.scores.now.ok.0) c.in_ok-push.ensures.items c.in_ok-insert.ensures.updates

pub returns-in_ok-insert-clause-place : goal.returns-in_ok-insert-clause-place
returns-in_ok-insert-clause-place c =
    let w : Score = record { id = c.args.standing.id; stamp = c.args.standing.stamp; hooks = 0 } in
    place_told c.args.scores.now.items c.args.standing w refl c.len-place.result c.push.new.self.items refl refl (c.len-place.ensures ∙ c.args.scores.now.ok.0) c.in_ok-push.ensures.items

pub returns-in_default-places-clause-places : goal.returns-in_default-places-clause-places
returns-in_default-places-clause-places c =
    let w : Score = record { id = c.args.standing.id; stamp = c.args.standing.stamp; hooks = 0 } in
    subst (λ (o : Option PlaceMap). ArePlaces o c.push.new.self.items) (sym c.in_default-places.is)
    (searched_told c.args.scores.now.items c.args.standing w refl c.push.new.self.items
    (subst (λ (o : Option PlaceMap). ArePlaces o c.args.scores.now.items) c.in_default-places.is c.requires)
    (subst (λ (m : List Score). HasNoPlace m c.args.standing.id) c.as_slice.ensures.value c.in_default.ensures.none)
    c.in_ok-push.ensures.items)

pub returns-in_default-places-clause-place : goal.returns-in_default-places-clause-place
returns-in_default-places-clause-place c =
    let w : Score = record { id = c.args.standing.id; stamp = c.args.standing.stamp; hooks = 0 } in
    place_told c.args.scores.now.items c.args.standing w refl c.len-place.result c.push.new.self.items refl refl (c.len-place.ensures ∙ c.args.scores.now.ok.0) c.in_ok-push.ensures.items
