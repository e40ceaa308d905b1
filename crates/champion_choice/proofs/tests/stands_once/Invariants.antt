use Rattle.std.proofs.Common.{take}
use Rattle.champion_choice.specs.Scores.{StandsOnce}
use Rattle.champion_choice.proofs.tests.stands_once.Given as goal

abbrev pub invariant-loop-i : goal.invariant-loop-i
invariant-loop-i l = StandsOnce (take l.i l.stood)
