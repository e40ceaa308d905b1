use Rattle.history_laws.proofs.OwnEndLaws.{own_end_above, own_end_least}
use Rattle.history_laws.proofs.own_ends.own_end_is_least.Goals as goal

pub returns-clause-above : goal.returns-clause-above
returns-clause-above c = own_end_above

pub returns-clause-least : goal.returns-clause-least
returns-clause-least c = own_end_least
