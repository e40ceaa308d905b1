use Rattle.run_streams.proofs.DueLaws.{reclaim_is_due}
use Rattle.run_streams.proofs.laws.reclaims_are_answered.Goals as goal

pub returns : goal.returns
returns c = λ files before after sink sink' status done quiet. reclaim_is_due files before after sink sink' status done quiet
