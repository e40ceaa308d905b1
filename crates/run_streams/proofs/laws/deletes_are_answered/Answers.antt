use Rattle.run_streams.proofs.DueLaws.{delete_is_due}
use Rattle.run_streams.proofs.laws.deletes_are_answered.Goals as goal

pub returns : goal.returns
returns c = λ name files before after sink sink' status done. delete_is_due name files before after sink sink' status done
