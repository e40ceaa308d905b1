use Rattle.run_streams.proofs.MadeLaws.{run_makes}
use Rattle.run_streams.proofs.laws.objects_of_a_run.Goals as goal

pub returns : goal.returns
returns c = λ kind objects files before after sink sink' status done told files_told. run_makes kind before after sink sink' status done objects files told files_told
