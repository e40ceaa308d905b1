use Rattle.history_laws.proofs.LiveLaws.{pending_live}
use Rattle.history_laws.proofs.needs.pending_is_live.Goals as goal

pub returns : goal.returns
returns c = λ rules past session id legal chosen. pending_live rules session id past legal chosen
