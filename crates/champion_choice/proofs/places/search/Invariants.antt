use Rattle.champion_choice.specs.Scores.{HasNoPlaceBelow}
use Rattle.champion_choice.proofs.places.search.Given as goal

abbrev pub invariant-loop-place : goal.invariant-loop-place
invariant-loop-place l = HasNoPlaceBelow l.scores l.id l.place
