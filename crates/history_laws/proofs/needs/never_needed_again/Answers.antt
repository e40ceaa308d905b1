use Rattle.history_laws.proofs.NeedLaws.{never_needed}
use Rattle.history_laws.proofs.needs.never_needed_again.Goals as goal

pub returns : goal.returns
returns c = never_needed
