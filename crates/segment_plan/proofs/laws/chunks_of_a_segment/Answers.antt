use Rattle.segment_plan.proofs.ChunkLaws.{segment-again}
use Rattle.segment_plan.proofs.laws.chunks_of_a_segment.Goals as goal

pub returns : goal.returns
returns c = segment-again
