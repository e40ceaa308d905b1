use Rattle.restore.proofs.FrontLaws.{stream_front}
use Rattle.restore.proofs.laws.front_of_a_restore.Goals as goal

pub returns : goal.returns
returns c = stream_front
