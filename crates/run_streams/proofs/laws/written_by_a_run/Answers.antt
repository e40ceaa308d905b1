use Rattle.run_streams.proofs.WroteRunLaws.{written_held, written_recorded, others_wrote}
use Rattle.run_streams.proofs.laws.written_by_a_run.Goals as goal

pub returns-clause-held : goal.returns-clause-held
returns-clause-held c = λ input name streams objects before after sink sink' status done told input_is was. written_held input name streams before after sink sink' status done input_is was objects told

pub returns-clause-recorded : goal.returns-clause-recorded
returns-clause-recorded c = λ input name streams before after sink sink' status done input_is was. written_recorded input name streams before after sink sink' status done input_is was

pub returns-clause-others : goal.returns-clause-others
returns-clause-others c = λ kind before after sink sink' status done nothing. others_wrote kind before after sink sink' status done nothing
