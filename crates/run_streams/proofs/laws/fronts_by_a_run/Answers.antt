use Rattle.stored_streams.specs.Reads.Reads.{held}
use Rattle.run_streams.proofs.RestoreLaws.{opened_told, front_left, front_left_recorded}
use Rattle.run_streams.proofs.WholeAnswerLaws.{whole_front}
use Rattle.run_streams.proofs.laws.fronts_by_a_run.Goals as goal

pub returns-clause-held : goal.returns-clause-held
returns-clause-held c = λ streams objects name output before after sink sink' status fault done failed told of_streams.
    front_left streams name output before after sink sink' status done of_streams fault failed (held objects) (opened_told streams name output before after sink sink' status done of_streams objects told)

pub returns-clause-recorded : goal.returns-clause-recorded
returns-clause-recorded c = λ streams earlier name output before after sink sink' status fault done failed told of_streams. front_left_recorded streams name output before after sink sink' status done of_streams fault failed earlier told

pub returns-clause-whole : goal.returns-clause-whole
returns-clause-whole c = λ streams store name output before after sink sink' status fault done failed is. whole_front streams store name output before after sink sink' status done is fault failed
