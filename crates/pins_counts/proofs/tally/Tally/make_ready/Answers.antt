use Rattle.std.proofs.Common.{◌∙◌, ap, ◌||◌}
use Rattle.ss_base.specs.Ids.{same_object}
use Rattle.pins_counts.specs.Counts.{number, is_ready}
use Rattle.pins_counts.specs.Facts.{numbers_of, fact_at}
use Rattle.pins_counts.proofs.FactLaws.{sound_kept, sound_same, run_of_nothing, ready_made, number_kept, gone_kept, number_of_nothing, gone_of_nothing}
use Rattle.pins_counts.proofs.tally.Tally.make_ready.Goals as goal

pub returns-clause-ready : goal.returns-clause-ready
returns-clause-ready c q =
    ready_made c.self.inside.facts c.make_fact.new.facts c.args.object _ c.in_ok-make_fact.ensures.ok q ∙ ap (λ v. same_object q c.args.object || is_ready v q) c.self.view_is

pub returns-clause-numbers : goal.returns-clause-numbers
returns-clause-numbers c q =
    let m = c.self.inside.facts in
    number_kept m c.make_fact.new.facts c.args.object _ c.in_ok-make_fact.ensures.ok (number_of_nothing (fact_at m c.args.object)) q ∙ ap (λ v. number v q) c.self.view_is

pub returns-clause-rest : goal.returns-clause-rest
returns-clause-rest c =
    let m = c.self.inside.facts in
    let gone = gone_kept m c.make_fact.new.facts c.args.object _ c.in_ok-make_fact.ensures.ok (gone_of_nothing (fact_at m c.args.object)) ∙ ap (λ v. v.gone) c.self.view_is in
    λ i. record { numbers = numbers_of c.make_fact.new.facts.entries; sessions = (c.self.view_is i).sessions; gone = gone i; room = (c.self.view_is i).room }

pub invariant_of-self : goal.invariant_of-self
invariant_of-self c = (c.self.invariant.0, c.self.invariant.1, sound_same c.self.inside.facts c.make_fact.new.facts c.in_err-make_fact.ensures.err c.self.invariant.2)

pub invariant_of-self-2 : goal.invariant_of-self-2
invariant_of-self-2 c =
    let m = c.self.inside.facts in
    (c.self.invariant.0, c.self.invariant.1, sound_kept m c.make_fact.new.facts c.args.object _ c.in_ok-make_fact.ensures.ok c.self.invariant.2 (run_of_nothing (fact_at m c.args.object)))
