use Rattle.run_streams.proofs.RunLaws.{keeps_held, keeps_recorded, others_keep}
use Rattle.run_streams.proofs.laws.streams_of_a_run.Goals as goal

pub returns-clause-held : goal.returns-clause-held
returns-clause-held c = λ kind streams objects before after sink sink' status done told input_is was. keeps_held kind streams objects before after sink sink' status done told input_is was

pub returns-clause-recorded : goal.returns-clause-recorded
returns-clause-recorded c = λ input name streams before after sink sink' status done input_is was. keeps_recorded input name streams before after sink sink' status done input_is was

pub returns-clause-others : goal.returns-clause-others
returns-clause-others c = λ kind streams before after sink sink' status done nothing was. others_keep kind streams before after sink sink' status done nothing was
