use Rattle.std.proofs.Common.{◌≡◌, sym, ◌∙◌, ap, subst, ◌+◌, ◌-◌, ◌<◌, ◌≤◌, ℕ, false, true, not, ◌&&◌, ◌==◌, take, filter, ◌++◌, ◌∷◌, [], arith}
use Rattle.ss_base.specs.KnownObjects.{numbered}
use Rattle.pins_counts.specs.Counts.{number, is_gone, object_of, is_idle}
use Rattle.pins_counts.specs.Facts.{place_of, at_place, gone_in, fact_at}
use Rattle.pins_counts.proofs.FactLaws.{gone_seen_at}
use Rattle.pins_counts.proofs.WalkLaws.{Finds, first_of, finds_one, finds_none, passed_to, place_in, own_place}
use Rattle.pins_counts.proofs.tally.Tally.add_dead_of.Goals as goal
use Rattle.pins_counts.proofs.tally.Tally.add_dead_of.Goals.{then-is_idle+in_ok-push, else-is_idle}

pub loop-next-preserved : goal.loop-next-preserved
loop-next-preserved c =
    let idle = is_idle c.args.self.now in
    let kind = c.args.kind in
    let session = c.args.session in
    let count = c.args.count in
    let next = c.loop-next.next in
    let after = c.after_gone-next.result in
    let x = object_of kind session next in
    let xs = numbered (object_of kind session) (next + 1) (count - (next + 1)) in
    let goal = take c.args.limit (c.args.found.now.items ++ filter idle (numbered (object_of kind session) 0 count)) in
    let so = subst (λ ys. Finds c.args.limit c.loop-next.found.items (filter idle ys) goal) (first_of kind session next count (omega arith)) c.loop-next.invariant.1 in
    let is = c.is_idle.ensures ∙ ap idle c.object-object.ensures in
    let place : place_of c.object-object.result ≡ next = ap place_of c.object-object.ensures ∙ own_place kind session next in
    let none : (n : ℕ) → next + 1 ≤ n → n < after → idle (object_of kind session n) ≡ false =
    λ n from to.
    let there : at_place c.object-object.result n ≡ object_of kind session n = ap (λ y. at_place y n) c.object-object.ensures ∙ place_in kind session next n in
    let gone : is_gone c.args.self.now (object_of kind session n) ≡ true =
    ap (λ v. is_gone v (object_of kind session n)) (sym c.self.view_is)
    ∙ gone_seen_at c.self.inside.facts _ (ap (λ y. gone_in (fact_at c.self.inside.facts y)) (sym there) ∙ c.after_gone-next.ensures.gone n (omega arith) to) in
    ap (λ b. not b && (number c.args.self.now (object_of kind session n) == 0)) gone in
    let low : next < after = omega (arith, c.after_gone-next.ensures.within) in
    let high : after ≤ count = c.after_gone-next.ensures.within.1 in
    let passes = passed_to idle kind session count (next + 1) after (omega arith) high none in
    elim c.if-is_idle.branch [
      | then-is_idle+in_ok-push w ↦
          let pushed : c.if-is_idle.found.items ≡ c.loop-next.found.items ++ x ∷ [] = ap (λ v. v.items) w.found-is ∙ w.in_ok-push.ensures.items ∙ ap (λ y. c.loop-next.found.items ++ y ∷ []) c.object-object.ensures in
          let found = subst (λ ys. Finds c.args.limit ys (filter idle xs) goal) (sym pushed) (finds_one c.args.limit idle c.loop-next.found.items x xs goal (sym is ∙ w.if-is_idle.true) (omega arith) so) in
          (high, subst (λ ys. Finds c.args.limit c.if-is_idle.found.items ys goal) passes found)
      | else-is_idle w ↦
          let kept : c.if-is_idle.found.items ≡ c.loop-next.found.items = ap (λ v. v.items) w.found-is in
          let found = subst (λ ys. Finds c.args.limit ys (filter idle xs) goal) (sym kept) (finds_none c.args.limit idle c.loop-next.found.items x xs goal (sym is ∙ w.if-is_idle.false) so) in
          (high, subst (λ ys. Finds c.args.limit c.if-is_idle.found.items ys goal) passes found)
    ]
