use Rattle.history_counts.proofs.EmptyLaws.{none_counted}
use Rattle.history_counts.proofs.laws.nothing_is_counted.Goals as goal

pub returns : goal.returns
returns c = none_counted
