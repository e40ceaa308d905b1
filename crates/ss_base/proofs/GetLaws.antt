-- Places in a list, in one with more items, and in one that is read backwards.
use Rattle.std.proofs.Common.{◌≡◌, ◌⊎◌, ℕ, zero, suc, List, [], ◌∷◌, ◌++◌, length, reverse, slice_get, Some, refl, sym, ap, ◌∙◌, inl, inr, arith}
use Rattle.std.proofs.lemmas.List.{reverse-append, length-reverse}
use Rattle.ss_base.proofs.MemberLaws.{In}

pub get_in : {X : Type 0} (x : X) (xs : List X) (k : ℕ) → slice_get xs k ≡ Some x → In x xs
get_in x [] k is = absurd (cc)
get_in x (y ∷ ys) zero is = inl (cc)
get_in x (y ∷ ys) (suc k) is = inr (get_in x ys k is)

pub get_kept : {X : Type 0} (xs ys : List X) (y : X) (k : ℕ) → slice_get xs k ≡ Some y → slice_get (xs ++ ys) k ≡ Some y
get_kept [] ys y k is = absurd (cc)
get_kept (z ∷ xs) ys y zero is = is
get_kept (z ∷ xs) ys y (suc k) is = get_kept xs ys y k is

pub get_last : {X : Type 0} (xs : List X) (x : X) → slice_get (xs ++ x ∷ []) (length xs) ≡ Some x
get_last [] x = refl
get_last (z ∷ xs) x = get_last xs x

-- what stands in a list with one more item
pub at_end : {X : Type 0} (xs : List X) (x y : X) (k : ℕ) → slice_get (xs ++ x ∷ []) k ≡ Some y → (slice_get xs k ≡ Some y) ⊎ ((k ≡ length xs) × (x ≡ y))
at_end [] x y zero is = inr (refl, cc)
at_end [] x y (suc k) is = absurd (cc)
at_end (z ∷ xs) x y zero is = inl is
at_end (z ∷ xs) x y (suc k) is = elim (at_end xs x y k is) [
  | inl old ↦ inl old
  | inr new ↦ inr ((let place = new.0 in omega (arith, place)), new.1)
]

-- ---- a list that is read backwards, with one more item in front

pub reverse_kept : {X : Type 0} (x y : X) (xs : List X) (k : ℕ) → slice_get (reverse xs) k ≡ Some x → slice_get (reverse (y ∷ xs)) k ≡ Some x
reverse_kept x y xs k is = ap (λ l. slice_get l k) (reverse-append (y ∷ []) xs) ∙ get_kept (reverse xs) (y ∷ []) x k is

pub reverse_last : {X : Type 0} (x : X) (xs : List X) → slice_get (reverse (x ∷ xs)) (length xs) ≡ Some x
reverse_last x xs =
    ap (λ l. slice_get l (length xs)) (reverse-append (x ∷ []) xs)
    ∙ ap (λ k. slice_get (reverse xs ++ x ∷ []) k) (sym (length-reverse xs))
    ∙ get_last (reverse xs) x

pub reverse_cases : {X : Type 0} (x y : X) (xs : List X) (k : ℕ) → slice_get (reverse (y ∷ xs)) k ≡ Some x → (slice_get (reverse xs) k ≡ Some x) ⊎ ((k ≡ length xs) × (y ≡ x))
reverse_cases x y xs k is = elim (at_end (reverse xs) y x k (ap (λ l. slice_get l k) (sym (reverse-append (y ∷ []) xs)) ∙ is)) [
  | inl older ↦ inl older
  | inr last ↦ inr (last.0 ∙ length-reverse xs, last.1)
]
