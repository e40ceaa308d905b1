use Rattle.std.proofs.Common.{sym, ◌∙◌}
use Rattle.champion_choice.proofs.TestLaws.{once_none, once_more}
use Rattle.champion_choice.proofs.tests.stands_once.Goals as goal

pub loop-i-init : goal.loop-i-init
loop-i-init c = once_none

pub loop-i-preserved : goal.loop-i-preserved
loop-i-preserved c = once_more c.args.stood.now c.loop-i.i _ c.loop-i-test.true c.loop-i.invariant (sym c.stands_in.ensures ∙ c.if-stands_in.false)
