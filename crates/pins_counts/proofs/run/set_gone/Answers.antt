use Rattle.std.proofs.Common.{◌≡◌, refl, ap, ◌∙◌, arith}
use Rattle.pins_counts.specs.Facts.{place_of, at_place, gone_in, fact_at}
use Rattle.pins_counts.proofs.FactLaws.{sound_run, covered_set, at_same, place_at, same_gone}
use Rattle.pins_counts.proofs.run.set_gone.Goals as goal

pub set_run-requires-clause-sound : goal.set_run-requires-clause-sound
set_run-requires-clause-sound c =
    let m = c.args.facts.now in
    let n = c.set_fact.new.facts in
    let covered = covered_set m n c.args.object _ c.set_fact.ensures refl c.first_before.result c.last_after.result c.first_before.ensures.gone c.last_after.ensures.gone in
    sound_run m n c.args.object _ c.set_fact.ensures refl _ refl c.requires.sound covered c.first_before.ensures.within c.last_after.ensures.within

pub set_run-requires-clause-gone : goal.set_run-requires-clause-gone
set_run-requires-clause-gone c x from to =
    let m = c.args.facts.now in
    let n = c.set_fact.new.facts in
    let k = c.args.object in
    let there : at_place c.at_place.result x ≡ at_place k x = ap (λ y. at_place y x) c.at_place.ensures ∙ at_same k _ x in
    ap (λ y. gone_in (fact_at n y)) there
    ∙ covered_set m n k _ c.set_fact.ensures refl c.first_before.result c.last_after.result c.first_before.ensures.gone c.last_after.ensures.gone x from to

pub set_run-requires-clause-within : goal.set_run-requires-clause-within
set_run-requires-clause-within c =
    let place : place_of c.at_place.result ≡ c.first_before.result = ap place_of c.at_place.ensures ∙ place_at c.args.object _ in
    let low = c.first_before.ensures.within in
    let high = c.last_after.ensures.within in
    (omega arith, omega arith)

pub set_run-requires-2-clause-gone : goal.set_run-requires-2-clause-gone
set_run-requires-2-clause-gone c x from to =
    let m = c.args.facts.now in
    let n = c.set_fact.new.facts in
    let k = c.args.object in
    let there : at_place c.at_place-2.result x ≡ at_place k x = ap (λ y. at_place y x) c.at_place-2.ensures ∙ at_same k _ x in
    ap (λ y. gone_in (fact_at c.set_run.new.facts y)) there ∙ same_gone _ _ (c.set_run.ensures.seen (at_place k x))
    ∙ covered_set m n k _ c.set_fact.ensures refl c.first_before.result c.last_after.result c.first_before.ensures.gone c.last_after.ensures.gone x from to

pub set_run-requires-2-clause-within : goal.set_run-requires-2-clause-within
set_run-requires-2-clause-within c =
    let place : place_of c.at_place-2.result ≡ c.last_after.result = ap place_of c.at_place-2.ensures ∙ place_at c.args.object _ in
    let low = c.first_before.ensures.within in
    let high = c.last_after.ensures.within in
    (omega arith, omega arith)
