use Rattle.run_streams.proofs.ClosedLaws.{closed_run}
use Rattle.run_streams.proofs.laws.closed_by_a_run.Goals as goal

pub returns : goal.returns
returns c = λ kind before after sink sink' status done. closed_run kind before after sink sink' status done
