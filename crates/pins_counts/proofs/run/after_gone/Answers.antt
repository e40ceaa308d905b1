use Rattle.std.proofs.Common.{arith}
use Rattle.pins_counts.proofs.FactLaws.{neighbour}
use Rattle.pins_counts.proofs.run.after_gone.Goals as goal

pub returns-in-Some-clause-gone : goal.returns-in-Some-clause-gone
returns-in-Some-clause-gone c n above below =
    let claims = neighbour c.args.facts.now c.args.object c.fact_of-fact.result c.in-Some.run' c.requires.sound c.fact_of-fact.ensures c.in-Some.is in
    claims.after n (omega arith) (omega arith)

pub returns-in-Some-2-clause-gone : goal.returns-in-Some-2-clause-gone
returns-in-Some-2-clause-gone c n above below =
    let claims = neighbour c.args.facts.now c.args.object c.fact_of-fact.result c.in-Some-2.run' c.requires.sound c.fact_of-fact.ensures c.in-Some-2.is in
    claims.after n (omega arith) (omega arith)
