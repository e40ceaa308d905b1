-- The greatest number of items that come one after another.
use Rattle.std.proofs.Common.{◌≡◌, ℕ, ◌+◌, ◌<◌, ◌≤◌, max, List, [], ◌∷◌, ◌++◌, take, get_or, length, refl, ap, ◌∙◌, arith}
use Rattle.std.proofs.lemmas.List.{take_more, take_all}
use Rattle.history.specs.OwnEnd.{greatest_by}

pub greatest_none : {A : Type 0} (f : A → ℕ) → greatest_by f [] ≡ 0
unfolding greatest_by
greatest_none f = refl

greatest_push : {A : Type 0} (f : A → ℕ) (xs : List A) (x : A) → greatest_by f (xs ++ x ∷ []) ≡ max (greatest_by f xs) (f x)
unfolding greatest_by
greatest_push f [] x = omega arith
greatest_push f (y ∷ xs) x = omega (arith, greatest_push f xs x)

-- one more item
pub greatest_more : {A : Type 0} (f : A → ℕ) (xs : List A) (i : ℕ) (d : A) → i < length xs → greatest_by f (take (i + 1) xs) ≡ max (greatest_by f (take i xs)) (f (get_or xs i d))
greatest_more f xs i d below = ap (greatest_by f) (take_more xs i d below) ∙ greatest_push f (take i xs) (get_or xs i d)

-- all items
pub greatest_all : {A : Type 0} (f : A → ℕ) (xs : List A) (i : ℕ) → length xs ≤ i → greatest_by f (take i xs) ≡ greatest_by f xs
greatest_all f xs i all = ap (greatest_by f) (take_all i xs all)
