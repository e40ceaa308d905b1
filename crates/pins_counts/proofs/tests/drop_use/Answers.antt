use Rattle.pins_counts.proofs.LoopLaws.{distinct_one}
use Rattle.pins_counts.proofs.tests.drop_use.Goals as goal

pub drop_uses-requires-clause-distinct : goal.drop_uses-requires-clause-distinct
drop_uses-requires-clause-distinct g c = distinct_one _
