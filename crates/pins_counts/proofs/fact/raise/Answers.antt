use Rattle.std.proofs.Common.{rules, sym, ap, ◌∙◌, subst, ◌+◌, ◌-◌, ◌<◌, ◌^◌}
use Rattle.std.specs.Option.{option_copied_mut}
use Rattle.pins_counts.specs.declared.fact.Fact.{Fact}
use Rattle.pins_counts.specs.Facts.{fact_or_nothing, OneSet}
use Rattle.pins_counts.proofs.FactLaws.{found_at, one_set}
use Rattle.pins_counts.proofs.fact.raise.Goals as goal

pub overflow_add-fact : goal.overflow_add-fact
overflow_add-fact c =
    let is = found_at c.args.facts.now c.args.object _ (sym (ap option_copied_mut c.in-Some.is) ∙ c.get_mut.ensures.value) in
    let below = subst (λ found. (fact_or_nothing found).number < 2 ^ 32 - 1) is c.requires.below in
    search rules

pub returns-in-Some : goal.returns-in-Some
returns-in-Some c =
    let m = c.args.facts.now in
    let k = c.args.object in
    let is = found_at m k _ (sym (ap option_copied_mut c.in-Some.is) ∙ c.get_mut.ensures.value) in
    let w : Fact = record { number = c.in-Some.fact.now.number + 1; gone = c.in-Some.fact.now.gone } in
    let n = c.get_mut.follows.lender w in
    subst (λ found. let f = fact_or_nothing found in OneSet m n k (record f { number = f.number + 1 })) (sym is) (one_set m n k w ((c.get_mut.follows.holds w).3 (search rules)))
