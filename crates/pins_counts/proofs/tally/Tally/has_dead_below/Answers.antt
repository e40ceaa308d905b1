use Rattle.std.proofs.Common.{◌≡◌, sym, ◌∙◌, ap, true, not, ◌&&◌, ◌==◌, inl, inr, arith}
use Rattle.std.proofs.lemmas.Bool.{cases_lt}
use Rattle.pins_counts.specs.Counts.{number, is_gone, object_of, is_idle}
use Rattle.pins_counts.specs.Facts.{place_of, at_place, gone_in, fact_at}
use Rattle.pins_counts.proofs.FactLaws.{gone_seen_at}
use Rattle.pins_counts.proofs.WalkLaws.{place_in, own_place}
use Rattle.pins_counts.proofs.tally.Tally.has_dead_below.Goals as goal

pub loop-next-preserved : goal.loop-next-preserved
loop-next-preserved c =
    let idle = is_idle c.args.self.now in
    let kind = c.args.kind in
    let session = c.args.session in
    let next = c.loop-next.next in
    let place : place_of c.object-object.result ≡ next = ap place_of c.object-object.ensures ∙ own_place kind session next in
    let within = c.after_gone-next.ensures.within in (
      within.1,
      λ n below. elim (cases_lt n next) [
        | inl lower ↦ c.loop-next.invariant.1 n lower
        | inr upper ↦ elim (cases_lt next n) [
          | inl later ↦
              let there : at_place c.object-object.result n ≡ object_of kind session n = ap (λ y. at_place y n) c.object-object.ensures ∙ place_in kind session next n in
              let gone : is_gone c.args.self.now (object_of kind session n) ≡ true =
              ap (λ v. is_gone v (object_of kind session n)) (sym c.self.view_is)
              ∙ gone_seen_at c.self.inside.facts _ (ap (λ y. gone_in (fact_at c.self.inside.facts y)) (sym there) ∙ c.after_gone-next.ensures.gone n (omega (arith, place, later)) below) in
              ap (λ b. not b && (number c.args.self.now (object_of kind session n) == 0)) gone
          | inr here ↦
              let e : n ≡ next = omega (arith, upper, here) in
              ap (λ m. idle (object_of kind session m)) e ∙ ap idle (sym c.object-object.ensures) ∙ sym c.is_idle.ensures ∙ c.if-is_idle.false
        ]
      ],
    )
