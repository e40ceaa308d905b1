use Rattle.segment_plan.proofs.LieLaws.{all-lie, places-count}
use Rattle.segment_plan.proofs.laws.places_of_a_plan.Goals as goal

pub returns-clause-count : goal.returns-clause-count
returns-clause-count c = places-count

pub returns-clause-each : goal.returns-clause-each
returns-clause-each c = all-lie
