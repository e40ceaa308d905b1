use Rattle.std.proofs.Common.{rules}
use Rattle.pins_counts.proofs.FactLaws.{one_set}
use Rattle.pins_counts.proofs.fact.set_fact.Goals as goal

pub returns-in-Some : goal.returns-in-Some
returns-in-Some c = one_set c.args.facts.now _ c.args.object c.args.fact ((c.get_mut.follows.holds c.args.fact).3 (search rules))
