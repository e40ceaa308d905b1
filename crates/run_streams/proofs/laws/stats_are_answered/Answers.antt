use Rattle.run_streams.proofs.DueLaws.{stat_is_due}
use Rattle.run_streams.proofs.laws.stats_are_answered.Goals as goal

pub returns : goal.returns
returns c = λ files before after sink sink' status done. stat_is_due files before after sink sink' status done
