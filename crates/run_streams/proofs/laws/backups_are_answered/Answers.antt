use Rattle.run_streams.proofs.WholeAnswerLaws.{backup_answered}
use Rattle.run_streams.proofs.laws.backups_are_answered.Goals as goal

pub returns : goal.returns
returns c = λ streams store input name before after sink sink' status done is input_is none_failed.
    backup_answered streams store input name before after sink sink' status done is input_is none_failed
