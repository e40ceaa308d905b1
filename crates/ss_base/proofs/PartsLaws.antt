-- Laws of the parts of a list.
use Rattle.std.proofs.Common.{◌≡◌, ℕ, zero, suc, ◌<◌, ◌≤◌, List, [], ◌∷◌, length, take, drop, refl, sym, ap, ◌∙◌, arith, length-drop}
use Rattle.ss_base.specs.Parts.{parts, parts_within}

-- the first part of a list that isn't empty has an item
pub record IsRule {A : Type 0} (first : List A → ℕ) : Type 0 where
  pub some : (x : A) (xs : List A) → 0 < first (x ∷ xs)

pub parts_within-nil : {A : Type 0} (n : ℕ) (first : List A → ℕ) → parts_within n first [] ≡ []
unfolding parts_within
parts_within-nil zero first = refl
parts_within-nil (suc n) first = refl

pub parts-nil : {A : Type 0} (first : List A → ℕ) → parts first [] ≡ []
unfolding parts parts_within
parts-nil first = refl

-- a bound that is large enough changes nothing
pub parts_within-enough : {A : Type 0} (first : List A → ℕ) → IsRule first → (n m : ℕ) (xs : List A) → length xs ≤ n → length xs ≤ m → parts_within n first xs ≡ parts_within m first xs
unfolding parts_within
parts_within-enough first rule n m [] a b = parts_within-nil n first ∙ sym (parts_within-nil m first)
parts_within-enough first rule zero m (x ∷ xs) a b = absurd (omega arith)
parts_within-enough first rule (suc n) zero (x ∷ xs) a b = absurd (omega arith)
parts_within-enough first rule (suc n) (suc m) (x ∷ xs) a b =
    let p = rule.some x xs in
    let l = length-drop (first (x ∷ xs)) (x ∷ xs) in
    ap (λ ps. take (first (x ∷ xs)) (x ∷ xs) ∷ ps) (parts_within-enough first rule n m (drop (first (x ∷ xs)) (x ∷ xs)) (omega (arith, l, p)) (omega (arith, l, p)))

-- the first part, and the parts of the rest
pub parts-step : {A : Type 0} (first : List A → ℕ) → IsRule first → (xs : List A) → 0 < length xs → parts first xs ≡ take (first xs) xs ∷ parts first (drop (first xs) xs)
unfolding parts parts_within
parts-step first rule [] some = absurd (omega arith)
parts-step first rule (x ∷ xs) some =
    let p = rule.some x xs in
    let l = length-drop (first (x ∷ xs)) (x ∷ xs) in
    let rest = drop (first (x ∷ xs)) (x ∷ xs) in
    ap (λ ps. take (first (x ∷ xs)) (x ∷ xs) ∷ ps) (parts_within-enough first rule (length xs) (length rest) rest (omega (arith, l, p)) (omega arith))
