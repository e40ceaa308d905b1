-- The fresh places are those whose origin is none.
use Rattle.std.proofs.Common.{◌≡◌, ◌↔◌, ℕ, List, [], Some, slice_get, get_or, take, refl, ap, ◌∙◌, arith}
use Rattle.std.proofs.lemmas.Option.{slice_get-get_or}
use Rattle.ss_base.specs.declared.name.Piece.{Piece}
use Rattle.ss_base.specs.Origins.{IsFreshPlace}
use Rattle.lack_plan.specs.declared.origin.Origin.{Origin}
use Rattle.lack_plan.specs.declared.origin.Origin.TheVariants.{Fresh, Champion, Earlier}
use Rattle.lack_plan.specs.Plan.{AreOrigins, IsOrigin}
use Rattle.std.proofs.lemmas.Option.{slice_get_within}

is-fresh : (ps : List Piece) (lists : List (List Piece)) (k : ℕ) (fresh : IsFreshPlace ps lists k) (o : Origin) → IsOrigin (take k ps) lists fresh.piece o → o ≡ Fresh
is-fresh ps lists k fresh Fresh is = refl
is-fresh ps lists k fresh (Champion which at) is = absurd (fresh.known which is.1.list is.1.there at is.1.place.here)
is-fresh ps lists k fresh (Earlier i) is = absurd (fresh.earlier i is.here)

pub fresh-places : (ps : List Piece) (lists : List (List Piece)) (os : List Origin) → AreOrigins ps lists os → (k : ℕ) → (slice_get os k ≡ Some Fresh) ↔ IsFreshPlace ps lists k
fresh-places ps lists os are k = (
  (λ is.
      let inside = slice_get_within os k Fresh is in
      let nothing : Piece = record { name = record { 0 = [] }; len = 0 } in
      let p = get_or ps k nothing in
      let here : slice_get ps k ≡ Some p = slice_get-get_or ps k nothing (omega (arith, inside, are.count)) in
      let origin = are.each k p Fresh here is in
      record { piece = p; here = here; earlier = origin.0; known = origin.1 }),
  (λ fresh.
      let inside = slice_get_within ps k fresh.piece fresh.here in
      let o = get_or os k Fresh in
      let there : slice_get os k ≡ Some o = slice_get-get_or os k Fresh (omega (arith, inside, are.count)) in
      there ∙ ap Some (is-fresh ps lists k fresh o (are.each k fresh.piece o fresh.here there))),
)
