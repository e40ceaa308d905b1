use Rattle.restored_streams.proofs.ExampleLaws.{is_restorable}
use Rattle.restored_streams.proofs.laws.restored_can_be_shown.Goals as goal

pub returns : goal.returns
returns c = λ profile bytes manifest is pieces places. is_restorable profile bytes manifest is pieces places
