-- Lists with no item twice.
use Rattle.std.proofs.Common.{◌≡◌, ℕ, zero, suc, ◌+◌, ◌≤◌, Bool, true, false, eqb, cond, List, [], ◌∷◌, ◌++◌, take, refl, subst, inl, inr, arith}
use mathlib.Core.List.{map}
use Rattle.std.specs.List.{filter, flat_map, range_with_len, AllByRecursion, IsDistinct}
use Rattle.std.proofs.lemmas.Bool.{cases_Bool, ne_eqb}
use Rattle.ss_base.proofs.MemberLaws.{In, filter_in, append_in, map_in, flat_map_in, take_in}

-- no item is the same as a later one
abbrev pub Apart : {X : Type 0} → (X → X → Bool) → List X → Type 0
Apart same [] = Unit {0}
Apart {X} same (x ∷ xs) = ((y : X) → In y xs → same x y ≡ false) × Apart same xs

pub apart_filter : {X : Type 0} (same : X → X → Bool) (p : X → Bool) (xs : List X) → Apart same xs → Apart same (filter p xs)
apart_filter same p [] apart = tt
apart_filter same p (x ∷ xs) apart = elim (cases_Bool (p x)) [
  | inl passes ↦ rw passes ((λ y h. apart.0 y (filter_in p y xs h).0), apart_filter same p xs apart.1)
  | inr fails ↦ rw fails (apart_filter same p xs apart.1)
]

pub apart_take : {X : Type 0} (same : X → X → Bool) (n : ℕ) (xs : List X) → Apart same xs → Apart same (take n xs)
apart_take same zero xs apart = tt
apart_take same (suc n) [] apart = tt
apart_take same (suc n) (x ∷ xs) apart = ((λ y h. apart.0 y (take_in y n xs h)), apart_take same n xs apart.1)

pub apart_append : {X : Type 0} (same : X → X → Bool) (xs ys : List X) → Apart same xs → Apart same ys → ((x y : X) → In x xs → In y ys → same x y ≡ false) → Apart same (xs ++ ys)
apart_append same [] ys left right across = right
apart_append same (x ∷ xs) ys left right across = (
  (λ y h. elim (append_in y xs ys h) [ inl first ↦ left.0 y first | inr second ↦ across x y (inl refl) second ]),
  apart_append same xs ys left.1 right (λ z y h. across z y (inr h)),
)

pub apart_by : {X : Type 0} (same : X → X → Bool) (b : Bool) (xs ys : List X) → Apart same xs → Apart same ys → Apart same (cond b xs ys)
apart_by same true xs ys left right = left
apart_by same false xs ys left right = right

-- what a function makes of items that are apart
pub apart_map : {X Y : Type 0} (same : X → X → Bool) (other : Y → Y → Bool) (f : X → Y) → ((x y : X) → same x y ≡ false → other (f x) (f y) ≡ false) → (xs : List X) → Apart same xs → Apart other (map f xs)
apart_map same other f keeps [] apart = tt
apart_map {X} {Y} same other f keeps (x ∷ xs) apart = (
  (λ y h.
      let at = map_in f y xs h in
      subst (λ (z : Y). other (f x) z ≡ false) at.2 (keeps x at.0 (apart.0 at.0 at.1))),
  apart_map same other f keeps xs apart.1,
)

pub apart_flat_map : {X Y : Type 0} (same : X → X → Bool) (other : Y → Y → Bool) (f : X → List Y) → ((x : X) → Apart other (f x)) → ((x y : X) (a b : Y) → same x y ≡ false → In a (f x) → In b (f y) → other a b ≡ false) → (xs : List X) → Apart same xs → Apart other (flat_map f xs)
apart_flat_map same other f each across [] apart = tt
apart_flat_map same other f each across (x ∷ xs) apart =
    apart_append other (f x) (flat_map f xs) (each x) (apart_flat_map same other f each across xs apart.1)
    (λ a b first later.
    let at = flat_map_in f b xs later in
    across x at.0 a b (apart.0 at.0 at.1) first at.2)

-- ---- numbers

range_above : (k a n : ℕ) → In k (range_with_len a n) → a ≤ k
range_above k a zero h = absurd h
range_above k a (suc n) (inl same) = omega (arith, same)
range_above k a (suc n) (inr later) = let above = range_above k (a + 1) n later in omega (arith, above)

pub apart_range : (a n : ℕ) → Apart eqb (range_with_len a n)
apart_range a zero = tt
apart_range a (suc n) = (
  (λ k h. ne_eqb a k (λ same. let above = range_above k (a + 1) n h in absurd (omega (arith, above, same)))),
  apart_range (a + 1) n,
)

-- ---- std's word

each_apart : {X : Type 0} (p : X → Bool) (xs : List X) → ((y : X) → In y xs → p y ≡ false) → AllByRecursion (λ y. p y ≡ false) xs
each_apart p [] each = tt
each_apart p (x ∷ xs) each = (each x (inl refl), each_apart p xs (λ y h. each y (inr h)))

pub IsDistinct-from_apart : {X : Type 0} (same : X → X → Bool) (xs : List X) → Apart same xs → IsDistinct same xs
unfolding IsDistinct
IsDistinct-from_apart same [] apart = tt
IsDistinct-from_apart same (x ∷ xs) apart = (each_apart (same x) xs apart.0, IsDistinct-from_apart same xs apart.1)
