use Rattle.std.proofs.Common.{◌≡◌, refl, sym, ◌∙◌, ap, subst, ◌+◌, ◌<◌, ◌-◌, arith}
use Rattle.pins_counts.specs.Counts.{number, is_ready}
use Rattle.pins_counts.specs.Facts.{numbers_of, fact_at, fact_or_nothing}
use Rattle.pins_counts.proofs.FactLaws.{sound_kept, run_of_nothing, number_taken, ready_kept, gone_kept, room_for, number_here, number_of_nothing, gone_of_nothing}
use Rattle.pins_counts.proofs.tally.Tally.take_one.Goals as goal

pub lower-requires-clause-room : goal.lower-requires-clause-room
lower-requires-clause-room c = room_for c.self.inside.facts c.args.object (ap (λ v. is_ready v c.args.object) c.self.view_is ∙ c.requires.ready)

pub lower-requires-clause-above : goal.lower-requires-clause-above
lower-requires-clause-above c =
    let m = c.self.inside.facts in
    let k = c.args.object in
    subst (λ n. 0 < n) (sym (number_here m k (fact_or_nothing (fact_at m k)) refl ∙ ap (λ v. number v k) c.self.view_is)) c.requires.above

pub returns-clause-numbers : goal.returns-clause-numbers
returns-clause-numbers c q =
    let m = c.self.inside.facts in
    let k = c.args.object in
    let f = fact_or_nothing (fact_at m k) in
    let above : 0 < f.number = subst (λ n. 0 < n) (sym (number_here m k f refl ∙ ap (λ v. number v k) c.self.view_is)) c.requires.above in
    let less : f.number ≡ (f.number - 1) + 1 = omega arith in
    let fell = sym (number_of_nothing (fact_at m k)) ∙ less in
    ap (λ v. number v q) (sym c.self.view_is) ∙ number_taken m c.lower.new.facts k _ c.lower.ensures.set fell q

pub returns-clause-ready : goal.returns-clause-ready
returns-clause-ready c q =
    let m = c.self.inside.facts in
    let k = c.args.object in
    let there = room_for m k (ap (λ v. is_ready v k) c.self.view_is ∙ c.requires.ready) in
    ready_kept m c.lower.new.facts k _ c.lower.ensures.set there q ∙ ap (λ v. is_ready v q) c.self.view_is

pub returns-clause-rest : goal.returns-clause-rest
returns-clause-rest c =
    let m = c.self.inside.facts in
    let k = c.args.object in
    let gone = gone_kept m c.lower.new.facts k _ c.lower.ensures.set (gone_of_nothing (fact_at m k)) ∙ ap (λ v. v.gone) c.self.view_is in
    λ i. record { numbers = numbers_of c.lower.new.facts.entries; sessions = (c.self.view_is i).sessions; gone = gone i; room = (c.self.view_is i).room }

pub returns-clause-left : goal.returns-clause-left
returns-clause-left c =
    let m = c.self.inside.facts in
    let k = c.args.object in
    sym (number_here m k (fact_or_nothing (fact_at m k)) refl ∙ ap (λ v. number v k) c.self.view_is) ∙ c.lower.ensures.left

pub invariant_of-self : goal.invariant_of-self
invariant_of-self c =
    let m = c.self.inside.facts in
    (c.self.invariant.0, c.self.invariant.1, sound_kept m c.lower.new.facts c.args.object _ c.lower.ensures.set c.self.invariant.2 (run_of_nothing (fact_at m c.args.object)))
