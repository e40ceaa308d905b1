-- Sums and counts over a list read backwards.
use Rattle.std.proofs.Common.{◌≡◌, ℕ, ◌+◌, Bool, cond, List, [], ◌∷◌, reverse, take, get_or, length, ◌<◌, refl, ap, ◌∙◌, arith}
use Rattle.std.specs.List.{sum_by, count_by}
use Rattle.std.proofs.lemmas.List.{reverse-append, take_more}
use Rattle.std.proofs.lemmas.List.Sums.{sum_by-cons, sum_by-append}

pub sum_by-reverse : {X : Type 0} (f : X → ℕ) (xs : List X) → sum_by f (reverse xs) ≡ sum_by f xs
sum_by-reverse f [] = refl
sum_by-reverse f (x ∷ xs) =
    let parts : sum_by f (reverse (x ∷ xs)) ≡ sum_by f (reverse xs) + sum_by f (x ∷ []) =
    ap (sum_by f) (reverse-append (x ∷ []) xs) ∙ sum_by-append f (reverse xs) (x ∷ []) in
    omega (arith, parts, sum_by-reverse f xs, sum_by-cons f x xs, sum_by-cons f x [])

pub count_by-reverse : {X : Type 0} (p : X → Bool) (xs : List X) → count_by p (reverse xs) ≡ count_by p xs
count_by-reverse p xs = sum_by-reverse (λ x. cond (p x) 1 0) xs

-- one more entry comes before those read so far
pub reverse_more : {X : Type 0} (xs : List X) (i : ℕ) (d : X) → i < length xs → reverse (take (i + 1) xs) ≡ get_or xs i d ∷ reverse (take i xs)
reverse_more xs i d below = ap reverse (take_more xs i d below) ∙ reverse-append (take i xs) (get_or xs i d ∷ [])
