use Rattle.std.proofs.Common.{◌-◌, arith}
use Rattle.pins_counts.proofs.FactLaws.{known_before}
use Rattle.pins_counts.proofs.run.first_before.Goals as goal

pub returns-in-Some-clause-gone : goal.returns-in-Some-clause-gone
returns-in-Some-clause-gone c =
    let place = c.place_of-place.ensures in
    known_before c.args.facts.now c.args.object c.at_place.result (c.place_of-place.result - 1) c.fact_of-fact.result c.in-Some.run' c.at_place.ensures (omega arith) c.requires c.fact_of-fact.ensures c.in-Some.is
