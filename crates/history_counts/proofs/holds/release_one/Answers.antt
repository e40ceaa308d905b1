use Rattle.std.proofs.Common.{◌≡◌, ◌+◌, Bool, true, false, ◌&&◌, get_or, List, refl, sym, ap, subst, arith, ◌∙◌}
use Rattle.std.proofs.lemmas.Bool.{eq-eqb}
use Rattle.ss_base.specs.declared.ids.ContainerId.{ContainerId}
use Rattle.ss_base.specs.declared.object.Object.TheVariants.{Container, Manifest}
use Rattle.ss_base.specs.Ids.{has_container}
use Rattle.ss_base.specs.Order.{are_ascending}
use Rattle.history.specs.Need.{commits_manifest}
use Rattle.history_laws.specs.EntryNumbers.{uses_listed}
use Rattle.pins_counts.specs.Counts.{Counted, one_if, hold_number, use_number}
use Rattle.history_counts.specs.CountsOf.{lists_object}
use Rattle.history_counts.specs.InStep.{gives_up}
use Rattle.history_counts.proofs.StepLaws.{distinct_uses, use_listed, as_objects, no_manifest}
use Rattle.history_counts.proofs.holds.release_one.Goals as goal

pub drop_uses-requires-clause-distinct : goal.drop_uses-requires-clause-distinct
unfolding uses_listed
drop_uses-requires-clause-distinct c =
    let same : uses_listed c.args.commit.now.point ≡ c.as_slice.result.now = ap uses_listed c.in-Commit.is ∙ sym c.as_slice.ensures in
    distinct_uses c.as_slice.result.now (subst (λ (l : List ContainerId). are_ascending l ≡ true) same c.requires.ascending)

pub drop_uses-requires-clause-ready : goal.drop_uses-requires-clause-ready
unfolding uses_listed lists_object
drop_uses-requires-clause-ready c = λ k d below.
    let same : uses_listed c.args.commit.now.point ≡ c.as_slice.result.now = ap uses_listed c.in-Commit.is ∙ sym c.as_slice.ensures in
    let x = get_or c.as_slice.result.now k d in
    c.unpin.ensures.ready (Container x) ∙ c.requires.ready (Container x) (ap (has_container x) same ∙ use_listed c.as_slice.result.now k d below)

pub drop_uses-requires-clause-above : goal.drop_uses-requires-clause-above
unfolding uses_listed
drop_uses-requires-clause-above c = λ k d below.
    let same : uses_listed c.args.commit.now.point ≡ c.as_slice.result.now = ap uses_listed c.in-Commit.is ∙ sym c.as_slice.ensures in
    let x = get_or c.as_slice.result.now k d in
    let some = c.requires.used x (ap (has_container x) same ∙ use_listed c.as_slice.result.now k d below) in
    let kept : use_number c.args.counts.now x ≡ use_number c.unpin.new.self x + 0 = c.unpin.ensures.numbers (Container x) in
    omega (arith, some, kept)

pub returns-then-holds-eq0-clause-uses : goal.returns-then-holds-eq0-clause-uses
unfolding gives_up
returns-then-holds-eq0-clause-uses c = λ x.
    let m = c.in-Commit.manifest in
    let new = c.drop_uses.new.self in
    let first : use_number c.args.counts.now x ≡ use_number c.unpin.new.self x + 0 = c.unpin.ensures.numbers (Container x) in
    let second = c.drop_uses.ensures.numbers (Container x) in
    let listed = ap one_if (as_objects x c.as_slice.result.now ∙ ap (has_container x) c.as_slice.ensures) in
    let hold = c.drop_uses.ensures.numbers (Manifest m) in
    let apart = ap one_if (no_manifest m c.as_slice.result.now) in
    let was = c.holds.ensures in
    let is = c.if-holds-eq0.true in
    let none : hold_number new m ≡ 0 = omega (arith, hold, apart, was, is) in
    let given = ap (λ p. one_if (gives_up new x p)) c.in-Commit.is ∙ ap (λ b. one_if (has_container x c.in-Commit.uses && b)) (eq-eqb (hold_number new m) 0 none) ∙ ap one_if (all_of (has_container x c.in-Commit.uses)) in
    omega (arith, first, second, listed, given)
  where
    all_of : (b : Bool) → (b && true) ≡ b
    all_of true = refl
    all_of false = refl

pub returns-then-holds-eq0-clause-holds : goal.returns-then-holds-eq0-clause-holds
unfolding commits_manifest
returns-then-holds-eq0-clause-holds c = record {
  holds = λ id.
      let first = c.unpin.ensures.numbers (Manifest id) in
      let second = c.drop_uses.ensures.numbers (Manifest id) in
      let apart = ap one_if (no_manifest id c.as_slice.result.now) in
      let does = ap (λ p. one_if (commits_manifest id p)) c.in-Commit.is in
      omega (arith, first, second, apart, does);
  ready = λ q. sym (c.drop_uses.ensures.ready q ∙ c.unpin.ensures.ready q);
  sessions = sym (ap (λ (v : Counted). v.sessions) c.drop_uses.ensures.rest ∙ ap (λ (v : Counted). v.sessions) c.unpin.ensures.rest);
  gone = sym (ap (λ (v : Counted). v.gone) c.drop_uses.ensures.rest ∙ ap (λ (v : Counted). v.gone) c.unpin.ensures.rest);
}
