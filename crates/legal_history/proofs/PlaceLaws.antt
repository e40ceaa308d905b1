-- Places in a list with a default, one of which is set, or with one more item.
use Rattle.std.proofs.Common.{◌≡◌, ℕ, zero, suc, ◌<◌, ◌≤◌, List, [], ◌∷◌, ◌++◌, length, slice_get, slice_set, unwrap_or, refl, ap, arith}

module _ {X : Type 0} (d : X) where
  pub set_here : (xs : List X) (t : ℕ) (x : X) → t < length xs → unwrap_or (slice_get (slice_set xs t x) t) d ≡ x
  set_here [] t x below = absurd (omega arith)
  set_here (y ∷ ys) zero x below = refl
  set_here (y ∷ ys) (suc t) x below = set_here ys t x (omega arith)

  pub set_other : (xs : List X) (s t : ℕ) (x : X) → (s ≡ t → ⊥) → unwrap_or (slice_get (slice_set xs t x) s) d ≡ unwrap_or (slice_get xs s) d
  set_other [] s t x apart = refl
  set_other (y ∷ ys) zero zero x apart = absurd (apart refl)
  set_other (y ∷ ys) zero (suc t) x apart = refl
  set_other (y ∷ ys) (suc s) zero x apart = refl
  set_other (y ∷ ys) (suc s) (suc t) x apart = set_other ys s t x (λ same. apart (ap suc same))

  pub push_here : (xs : List X) (x : X) → unwrap_or (slice_get (xs ++ x ∷ []) (length xs)) d ≡ x
  push_here [] x = refl
  push_here (y ∷ ys) x = push_here ys x

  pub push_other : (xs : List X) (s : ℕ) (x : X) → (s ≡ length xs → ⊥) → unwrap_or (slice_get (xs ++ x ∷ []) s) d ≡ unwrap_or (slice_get xs s) d
  push_other [] zero x apart = absurd (apart refl)
  push_other [] (suc s) x apart = refl
  push_other (y ∷ ys) zero x apart = refl
  push_other (y ∷ ys) (suc s) x apart = push_other ys s x (λ same. apart (ap suc same))

  pub past_end : (xs : List X) (s : ℕ) → length xs ≤ s → unwrap_or (slice_get xs s) d ≡ d
  past_end [] s over = refl
  past_end (y ∷ ys) zero over = absurd (omega arith)
  past_end (y ∷ ys) (suc s) over = past_end ys s (omega arith)
