use Rattle.std.proofs.Common.{refl, sym, ◌∙◌, ap, subst, ◌+◌, ◌-◌, ◌^◌, ◌<◌, cond}
use Rattle.ss_base.specs.Ids.{same_object}
use Rattle.pins_counts.specs.Counts.{number, is_ready}
use Rattle.pins_counts.specs.Facts.{numbers_of, fact_at, fact_or_nothing}
use Rattle.pins_counts.proofs.FactLaws.{sound_kept, run_of_nothing, number_added, ready_kept, gone_kept, room_for, number_here, number_of_nothing, gone_of_nothing}
use Rattle.pins_counts.proofs.tally.Tally.add_one.Goals as goal

pub raise-requires-clause-room : goal.raise-requires-clause-room
raise-requires-clause-room c = room_for c.self.inside.facts c.args.object (ap (λ v. is_ready v c.args.object) c.self.view_is ∙ c.requires.ready)

pub raise-requires-clause-below : goal.raise-requires-clause-below
raise-requires-clause-below c =
    let m = c.self.inside.facts in
    let k = c.args.object in
    let number_is = number_here m k (fact_or_nothing (fact_at m k)) refl ∙ ap (λ v. number v k) c.self.view_is in
    subst (λ n. n < 2 ^ 32 - 1) (sym number_is) c.requires.below

pub returns-clause-numbers : goal.returns-clause-numbers
returns-clause-numbers c q =
    let m = c.self.inside.facts in
    let k = c.args.object in
    let more = ap (λ n. n + 1) (number_of_nothing (fact_at m k)) in
    number_added m c.raise.new.facts k _ c.raise.ensures more q ∙ ap (λ v. number v q + cond (same_object q k) 1 0) c.self.view_is

pub returns-clause-ready : goal.returns-clause-ready
returns-clause-ready c q =
    let m = c.self.inside.facts in
    let k = c.args.object in
    let there = room_for m k (ap (λ v. is_ready v k) c.self.view_is ∙ c.requires.ready) in
    ready_kept m c.raise.new.facts k _ c.raise.ensures there q ∙ ap (λ v. is_ready v q) c.self.view_is

pub returns-clause-rest : goal.returns-clause-rest
returns-clause-rest c =
    let m = c.self.inside.facts in
    let k = c.args.object in
    let gone = gone_kept m c.raise.new.facts k _ c.raise.ensures (gone_of_nothing (fact_at m k)) ∙ ap (λ v. v.gone) c.self.view_is in
    λ i. record { numbers = numbers_of c.raise.new.facts.entries; sessions = (c.self.view_is i).sessions; gone = gone i; room = (c.self.view_is i).room }

pub invariant_of-self : goal.invariant_of-self
invariant_of-self c =
    let m = c.self.inside.facts in
    (c.self.invariant.0, c.self.invariant.1, sound_kept m c.raise.new.facts c.args.object _ c.raise.ensures c.self.invariant.2 (run_of_nothing (fact_at m c.args.object)))
