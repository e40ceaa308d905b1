use Rattle.history_counts.proofs.UsesLaws.{dead_erasable}
use Rattle.history_counts.proofs.laws.dead_is_erasable.Goals as goal

pub returns : goal.returns
returns c = λ rules counted past legal are. dead_erasable counted past are
