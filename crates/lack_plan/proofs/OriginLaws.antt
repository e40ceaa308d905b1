-- The origins are the one list that gives each piece its origin, and the fresh marks are those of its fresh items.
use Rattle.std.proofs.Common.{◌≡◌, ℕ, suc, List, [], ◌∷◌, ◌++◌, map, length, take, Option, Some, None, is_some, not, ◌&&◌, slice_get, refl, sym, ap, ◌∙◌, subst, arith, append_assoc, append-nil}
use Rattle.ss_base.specs.declared.name.Piece.{Piece}
use Rattle.ss_base.specs.Origins.{first_place, first_in, is_fresh, fresh_behind, fresh_marks}
use Rattle.ss_base.proofs.OriginLaws.{first_place-none, first_place-some, first_in-none, first_in-some}
use Rattle.lack_plan.specs.declared.origin.Origin.{Origin}
use Rattle.lack_plan.specs.declared.origin.Origin.TheVariants.{Fresh, Champion, Earlier}
use Rattle.lack_plan.specs.Plan.{origin_from, origin, origins_behind, origins, is_fresh_origin, IsOrigin, AreOrigins}

origin-is : (earlier : List Piece) (lists : List (List Piece)) (p : Piece) (o : Origin) → IsOrigin earlier lists p o → o ≡ origin earlier lists p
unfolding origin origin_from
origin-is earlier lists p Fresh is = sym (ap (λ place. origin_from place (first_in p lists)) (first_place-none p earlier is.0) ∙ ap (λ found. origin_from None found) (first_in-none p lists is.1))
origin-is earlier lists p (Champion which at) is = sym (ap (λ place. origin_from place (first_in p lists)) (first_place-none p earlier is.0) ∙ ap (λ found. origin_from None found) (first_in-some p lists which at is.1))
origin-is earlier lists p (Earlier i) is = sym (ap (λ place. origin_from place (first_in p lists)) (first_place-some p earlier i is))

-- each item is the origin of its piece, behind the earlier pieces and those before it
record AreBehind (earlier ps : List Piece) (lists : List (List Piece)) (os : List Origin) : Type 0 where
  pub count : length os ≡ length ps
  pub each : (k : ℕ) (p : Piece) (o : Origin) → slice_get ps k ≡ Some p → slice_get os k ≡ Some o → IsOrigin (earlier ++ take k ps) lists p o

behind-is : (earlier ps : List Piece) (lists : List (List Piece)) (os : List Origin) → AreBehind earlier ps lists os → os ≡ origins_behind earlier ps lists
unfolding origins_behind
behind-is earlier [] lists [] are = refl
behind-is earlier [] lists (o ∷ os) are = let count = are.count in absurd (cc)
behind-is earlier (p ∷ ps) lists [] are = let count = are.count in absurd (cc)
behind-is earlier (p ∷ ps) lists (o ∷ os) are =
    let first : o ≡ origin earlier lists p =
    origin-is earlier lists p o (subst (λ before. IsOrigin before lists p o) (append-nil earlier) (are.each 0 p o refl refl)) in
    let rest : os ≡ origins_behind (earlier ++ p ∷ []) ps lists =
    behind-is (earlier ++ p ∷ []) ps lists os (record {
      count = (let count = are.count in omega (arith, count));
      each = λ k q r here there. subst (λ before. IsOrigin before lists q r) (sym (append_assoc earlier (p ∷ []) (take k ps))) (are.each (suc k) q r here there);
    }) in
    ap (λ x. x ∷ os) first ∙ ap (λ xs. origin earlier lists p ∷ xs) rest

-- no other list gives each piece its origin
pub origins-only : (ps : List Piece) (lists : List (List Piece)) (os : List Origin) → AreOrigins ps lists os → os ≡ origins ps lists
unfolding origins
origins-only ps lists os are = behind-is [] ps lists os (record { count = are.count; each = are.each })

fresh-is : (place : Option ℕ) (found : Option (ℕ × ℕ)) → is_fresh_origin (origin_from place found) ≡ (not (is_some place) && not (is_some found))
unfolding origin_from
fresh-is (Some i) found = refl
fresh-is None (Some f) = refl
fresh-is None None = refl

marks-behind : (earlier ps : List Piece) (lists : List (List Piece)) → map is_fresh_origin (origins_behind earlier ps lists) ≡ fresh_behind earlier ps lists
unfolding origins_behind fresh_behind origin is_fresh
marks-behind earlier [] lists = refl
marks-behind earlier (p ∷ ps) lists =
    ap (λ b. b ∷ map is_fresh_origin (origins_behind (earlier ++ p ∷ []) ps lists)) (fresh-is (first_place p earlier) (first_in p lists))
    ∙ ap (λ bs. is_fresh earlier lists p ∷ bs) (marks-behind (earlier ++ p ∷ []) ps lists)

-- the marks of a segment's fresh places are those of its origins
pub marks-origins : (ps : List Piece) (lists : List (List Piece)) → map is_fresh_origin (origins ps lists) ≡ fresh_marks ps lists
unfolding origins fresh_marks
marks-origins ps lists = marks-behind [] ps lists
