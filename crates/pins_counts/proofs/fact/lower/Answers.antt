use Rattle.std.proofs.Common.{rules, sym, ap, ◌∙◌, subst, ◌-◌, ◌<◌}
use Rattle.std.specs.Option.{option_copied_mut}
use Rattle.pins_counts.specs.declared.fact.Fact.{Fact}
use Rattle.pins_counts.specs.Facts.{fact_or_nothing, OneSet}
use Rattle.pins_counts.proofs.FactLaws.{found_at, one_set}
use Rattle.pins_counts.proofs.fact.lower.Goals as goal

pub overflow_sub-left : goal.overflow_sub-left
overflow_sub-left c =
    let is = found_at c.args.facts.now c.args.object _ (sym (ap option_copied_mut c.in-Some.is) ∙ c.get_mut.ensures.value) in
    let above = subst (λ found. 0 < (fact_or_nothing found).number) is c.requires.above in
    search rules

pub returns-in-Some-clause-set : goal.returns-in-Some-clause-set
returns-in-Some-clause-set c =
    let m = c.args.facts.now in
    let k = c.args.object in
    let is = found_at m k _ (sym (ap option_copied_mut c.in-Some.is) ∙ c.get_mut.ensures.value) in
    let w : Fact = record { number = c.in-Some.fact.now.number - 1; gone = c.in-Some.fact.now.gone } in
    let n = c.get_mut.follows.lender w in
    subst (λ found. let f = fact_or_nothing found in OneSet m n k (record f { number = f.number - 1 })) (sym is) (one_set m n k w ((c.get_mut.follows.holds w).3 (search rules)))
