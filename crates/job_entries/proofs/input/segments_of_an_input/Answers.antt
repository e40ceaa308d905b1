use Rattle.job_entries.proofs.InputLaws.{input-whole, input-front}
use Rattle.job_entries.proofs.input.segments_of_an_input.Goals as goal

pub returns-clause-whole : goal.returns-clause-whole
returns-clause-whole c = λ n files input objects last segments told given. input-whole n files input objects last told segments given

pub returns-clause-front : goal.returns-clause-front
returns-clause-front c = λ n files input objects last work segments told split. input-front n files input objects last told work segments split
