-- Numbers and beginnings of lists.
use Rattle.std.proofs.Common.{◌≡◌, ◌⊎◌, ℕ, zero, suc, ◌<◌, ◌≤◌, ◌==◌, true, false, List, [], ◌∷◌, ◌++◌, length, refl, sym, ap, ◌∙◌, inl, inr, ⊎_elim, arith}
use Rattle.std.specs.List.{AllByRecursion}
use Rattle.std.proofs.lemmas.Bool.{or_cases, or_left, or_right, both_ways, false_from_ne_true}
use Rattle.std.proofs.lemmas.Bool.Decides.{nat_tests}
use mathlib.Core.Option.{some, some-ne-none, some-injective}
use lib.ListN.{get_elem?}
use Rattle.turn_lock.specs.Seen.{has_number}

-- ---- numbers

pub has_head : (n : ℕ) (ns : List ℕ) → has_number (n ∷ ns) n ≡ true
has_head n ns = or_left (n == n) (has_number ns n) (grind (arith, nat_tests))

pub has_append : (xs ys : List ℕ) (n : ℕ) → has_number (xs ++ ys) n ≡ true → (has_number xs n ≡ true) ⊎ (has_number ys n ≡ true)
has_append [] ys n e = inr e
has_append (x ∷ xs) ys n e = elim (or_cases (x == n) (has_number (xs ++ ys) n) e) [
  | inl here ↦ inl (or_left (x == n) (has_number xs n) here)
  | inr there ↦ elim (has_append xs ys n there) [
    | inl left ↦ inl (or_right (x == n) (has_number xs n) left)
    | inr right ↦ inr right
  ]
]

pub has_none : (xs ys : List ℕ) (n : ℕ) → has_number xs n ≡ false → has_number ys n ≡ false → has_number (xs ++ ys) n ≡ false
has_none xs ys n left right = false_from_ne_true (has_number (xs ++ ys) n) (λ has. ⊎_elim (λ l. both_ways (has_number xs n) left l) (λ r. both_ways (has_number ys n) right r) (has_append xs ys n has))

pub has_one : (n m : ℕ) → has_number (n ∷ []) m ≡ true → n ≡ m
has_one n m e = elim (or_cases (n == m) false e) [
  | inl here ↦ grind (arith, nat_tests)
  | inr there ↦ absurd (cc)
]

-- ---- what holds of each item

module _ {X : Type 0} where
  pub all_map : (P Q : X → Type 0) → ((x : X) → P x → Q x) → (xs : List X) → AllByRecursion P xs → AllByRecursion Q xs
  all_map P Q f [] all = tt
  all_map P Q f (x ∷ xs) all = (f x all.0, all_map P Q f xs all.1)

  pub all_right : (P : X → Type 0) (xs ys : List X) → AllByRecursion P (xs ++ ys) → AllByRecursion P ys
  all_right P [] ys all = all
  all_right P (x ∷ xs) ys all = all_right P xs ys all.1

  pub all_left : (P : X → Type 0) (xs ys : List X) → AllByRecursion P (xs ++ ys) → AllByRecursion P xs
  all_left P [] ys all = tt
  all_left P (x ∷ xs) ys all = (all.0, all_left P xs ys all.1)

  pub all_append : (P : X → Type 0) (xs ys : List X) → AllByRecursion P xs → AllByRecursion P ys → AllByRecursion P (xs ++ ys)
  all_append P [] ys left right = right
  all_append P (x ∷ xs) ys left right = (left.0, all_append P xs ys left.1 right)

  pub all_and : (P Q R : X → Type 0) → ((x : X) → P x → Q x → R x) → (xs : List X) → AllByRecursion P xs → AllByRecursion Q xs → AllByRecursion R xs
  all_and P Q R f [] p q = tt
  all_and P Q R f (x ∷ xs) p q = (f x p.0 q.0, all_and P Q R f xs p.1 q.1)

  -- no item at all, where none can be
  pub all_never : (P : X → Type 0) → ((x : X) → P x → ⊥) → (xs : List X) → AllByRecursion P xs → xs ≡ []
  all_never P never [] all = refl
  all_never P never (x ∷ xs) all = absurd (never x all.0)

  -- ---- beginnings of one list

  -- of two beginnings the longer has more of what is behind
  pub between : (xs r ys s z : List X) → xs ++ r ≡ z → ys ++ s ≡ z → length xs ≤ length ys → (m : List X) × (xs ++ m ≡ ys) × (r ≡ m ++ s)
  between [] r ys s z p q le = (ys, refl, p ∙ sym q)
  between (x ∷ xs) r [] s z p q le = absurd (omega arith)
  between (x ∷ xs) r (y ∷ ys) s [] p q le = absurd (cc (p))
  between (x ∷ xs) r (y ∷ ys) s (w ∷ z) p q le =
      let heads : x ≡ y = cc (p, q) in
      let rest = between xs r ys s z (cc (p)) (cc (q)) (omega arith) in
      (rest.0, cc (heads, rest.1), rest.2)

  pub nothing_behind : (xs r : List X) → r ≡ [] → xs ++ r ≡ xs
  nothing_behind [] r none = none
  nothing_behind (x ∷ xs) r none = ap (λ ys. x ∷ ys) (nothing_behind xs r none)

  -- ---- places

  pub at_snoc : (l : List X) (a b : X) (j : ℕ) → get_elem? (l ++ a ∷ []) j ≡ some b → (get_elem? l j ≡ some b) ⊎ ((j ≡ length l) × (a ≡ b))
  at_snoc [] a b zero e = inr (refl, some-injective a b e)
  at_snoc [] a b (suc j) e = absurd (some-ne-none b (sym e))
  at_snoc (x ∷ xs) a b zero e = inl e
  at_snoc (x ∷ xs) a b (suc j) e = ⊎_elim (λ h. inl h) (λ h. inr (omega (arith, h.0), h.1)) (at_snoc xs a b j e)

  pub there : (l : List X) (i : ℕ) → i < length l → (a : X) × (get_elem? l i ≡ some a)
  there [] i h = absurd (omega arith)
  there (x ∷ xs) zero h = (x, refl)
  there (x ∷ xs) (suc i) h = there xs i (omega arith)

  pub within_list : (l : List X) (i : ℕ) (a : X) → get_elem? l i ≡ some a → i < length l
  within_list [] i a e = absurd (some-ne-none a (sym e))
  within_list (x ∷ xs) zero a e = omega arith
  within_list (x ∷ xs) (suc i) a e = omega (arith, within_list xs i a e)
