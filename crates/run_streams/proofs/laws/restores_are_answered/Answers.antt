use Rattle.run_streams.proofs.WholeAnswerLaws.{restore_answered}
use Rattle.run_streams.proofs.laws.restores_are_answered.Goals as goal

pub returns : goal.returns
returns c = λ streams store files session name output before after sink sink' status done is held told absent none_failed.
    restore_answered streams store files session name output before after sink sink' status done is held told absent none_failed
