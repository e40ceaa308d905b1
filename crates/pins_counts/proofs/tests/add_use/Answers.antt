use Rattle.pins_counts.proofs.LoopLaws.{distinct_one}
use Rattle.pins_counts.proofs.tests.add_use.Goals as goal

pub add_uses-requires-clause-distinct : goal.add_uses-requires-clause-distinct
add_uses-requires-clause-distinct g c = distinct_one _
