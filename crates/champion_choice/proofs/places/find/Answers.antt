use Rattle.std.proofs.Common.{◌∙◌, Option, subst}
use Rattle.champion_choice.specs.Scores.{PlaceMap, ArePlaces}
use Rattle.champion_choice.proofs.PlaceLaws.{found_is}
use Rattle.champion_choice.proofs.places.find.Goals as goal

pub returns-in-Some-clause-some : goal.returns-in-Some-clause-some
returns-in-Some-clause-some c =
    (found_is c.in-Some.map c.args.scores.now c.args.id c.copied.result
    (subst (λ (o : Option PlaceMap). ArePlaces o c.args.scores.now) c.in-Some.is c.requires)
    (c.copied.ensures ∙ c.get.ensures.value)).0

pub returns-in-Some-clause-none : goal.returns-in-Some-clause-none
returns-in-Some-clause-none c =
    (found_is c.in-Some.map c.args.scores.now c.args.id c.copied.result
    (subst (λ (o : Option PlaceMap). ArePlaces o c.args.scores.now) c.in-Some.is c.requires)
    (c.copied.ensures ∙ c.get.ensures.value)).1
