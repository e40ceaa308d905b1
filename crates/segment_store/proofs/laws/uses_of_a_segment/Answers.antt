use Rattle.segment_store.proofs.UseLaws.{uses_allowed}
use Rattle.segment_store.proofs.laws.uses_of_a_segment.Goals as goal

pub returns : goal.returns
returns c = uses_allowed
