use Rattle.std.proofs.Common.{sym, ◌∙◌, ap, subst}
use Rattle.std.specs.Option.{is_some}
use Rattle.std.specs.HashMap as hash
use Rattle.pins_counts.specs.Facts.{fact_at, nothing, OneSet}
use Rattle.pins_counts.proofs.FactLaws.{derived-same_object, one_set, nothing_there}
use Rattle.pins_counts.proofs.fact.make_fact.Goals as goal

pub returns-in_ok-insert-clause-ok : goal.returns-in_ok-insert-clause-ok
returns-in_ok-insert-clause-ok c =
    let m = c.args.facts.now in
    let k = c.args.object in
    let set_to = one_set m c.insert.new.self k nothing c.in_ok-insert.ensures.updates in
    let absent = ap (λ R. is_some (hash.get R m k)) (sym derived-same_object) ∙ sym c.contains_key.ensures ∙ c.if-not-contains_key.true in
    subst (OneSet m c.insert.new.self k) (sym (nothing_there (fact_at m k) absent)) set_to
