use Rattle.champion_choice.proofs.BestLaws.{IsBestBefore}
use Rattle.champion_choice.proofs.score.best.Given as goal

abbrev pub invariant-loop-place : goal.invariant-loop-place
invariant-loop-place l = IsBestBefore l.scores l.place l.at l.best
