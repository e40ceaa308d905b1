use Rattle.std.proofs.Common.{take}
use Rattle.champion_choice.specs.Scores.{HasLowered}
use Rattle.champion_choice.proofs.score.lower.Given as goal

abbrev pub invariant-loop-i : goal.invariant-loop-i
invariant-loop-i l = HasLowered l.initial.scores l.scores (take l.i l.stood)
