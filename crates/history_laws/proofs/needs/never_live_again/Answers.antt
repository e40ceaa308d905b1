use Rattle.history_laws.proofs.NeedLaws.{never_live}
use Rattle.history_laws.proofs.needs.never_live_again.Goals as goal

pub returns : goal.returns
returns c = never_live
