use Rattle.std.proofs.Common.{take}
use Rattle.champion_choice.specs.Lists.{standings}
use Rattle.champion_choice.proofs.TestLaws.{AreChoosable}
use Rattle.champion_choice.proofs.tests.is_choosable.Given as goal

abbrev pub invariant-loop-stood : goal.invariant-loop-stood
invariant-loop-stood l = AreChoosable (take l.stood-index (standings l.lists))
