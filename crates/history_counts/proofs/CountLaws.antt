-- Counts of two tests over the same list.
use Rattle.std.proofs.Common.{◌≡◌, ℕ, ◌+◌, ◌≤◌, Bool, true, false, ◌&&◌, cond, List, [], ◌∷◌, Option, Some, None, refl, sym, ap, ◌∙◌, inl, inr, arith}
use Rattle.std.specs.List.{count_by, filter_map, cons_option}
use Rattle.std.specs.Option.{option_map_or}
use Rattle.std.proofs.lemmas.List.Sums.{sum_by-cons}
use Rattle.pins_counts.specs.Counts.{one_if}
use Rattle.ss_base.proofs.MemberLaws.{In, find_only}

pub count_cons : {X : Type 0} (p : X → Bool) (x : X) (xs : List X) → count_by p (x ∷ xs) ≡ one_if (p x) + count_by p xs
count_cons p x xs = sum_by-cons (λ y. cond (p y) 1 0) x xs

two_sums : (a b c d p q r s P Q R S : ℕ) → P ≡ a + p → Q ≡ b + q → R ≡ c + r → S ≡ d + s → a + b ≡ c + d → p + q ≡ r + s → P + Q ≡ R + S
two_sums a b c d p q r s P Q R S e1 e2 e3 e4 first rest = omega arith

-- where each item counts as much for the first two tests as for the others, so does the list
pub balanced : {X : Type 0} (p q r s : X → Bool) (xs : List X) → ((x : X) → In x xs → one_if (p x) + one_if (q x) ≡ one_if (r x) + one_if (s x))
    → count_by p xs + count_by q xs ≡ count_by r xs + count_by s xs
balanced p q r s [] each = refl
balanced p q r s (x ∷ xs) each =
    two_sums (one_if (p x)) (one_if (q x)) (one_if (r x)) (one_if (s x)) (count_by p xs) (count_by q xs) (count_by r xs) (count_by s xs) _ _ _ _
    (count_cons p x xs) (count_cons q x xs) (count_cons r x xs) (count_cons s x xs)
    (each x (inl refl)) (balanced p q r s xs (λ y h. each y (inr h)))

pub count_never : {X : Type 0} (xs : List X) → count_by (λ x. false) xs ≡ 0
count_never [] = refl
count_never {X} (x ∷ xs) = count_cons (λ (y : X). false) x xs ∙ (let rest = count_never xs in omega (arith, rest))

-- tests that agree on each item count the same
pub count_alike : {X : Type 0} (p q : X → Bool) (xs : List X) → ((x : X) → In x xs → p x ≡ q x) → count_by p xs ≡ count_by q xs
count_alike p q [] same = refl
count_alike p q (x ∷ xs) same =
    count_cons p x xs
    ∙ ap (λ b. one_if b + count_by p xs) (same x (inl refl))
    ∙ ap (λ n. one_if (q x) + n) (count_alike p q xs (λ y h. same y (inr h)))
    ∙ sym (count_cons q x xs)

and_true : (b : Bool) → (b && true) ≡ b
and_true true = refl
and_true false = refl

and_false : (b : Bool) → (b && false) ≡ false
and_false true = refl
and_false false = refl

-- one item passes the first test: both are passed as often as the second says
pub count_and : {X : Type 0} (p : X → Bool) (b : Bool) (xs : List X) → count_by p xs ≡ 1 → count_by (λ x. p x && b) xs ≡ one_if b
count_and {X} p true xs one = count_alike (λ (x : X). p x && true) p xs (λ x h. and_true (p x)) ∙ one
count_and {X} p false xs one = count_alike (λ (x : X). p x && false) (λ (x : X). false) xs (λ x h. and_false (p x)) ∙ count_never xs

-- where one item at most passes, two that do are the same
pub only_one : {X : Type 0} (p : X → Bool) (x y : X) (xs : List X) → count_by p xs ≤ 1 → In x xs → p x ≡ true → In y xs → p y ≡ true → x ≡ y
only_one {X} p x y xs few hx px hy py =
    let first = find_only p x xs few hx px in
    let second = find_only p y xs few hy py in
    let both : Some x ≡ Some y = sym first ∙ second in
    cc

count_option : {Y : Type 0} (p : Y → Bool) (o : Option Y) (ys : List Y) → count_by p (cons_option o ys) ≡ one_if (option_map_or p o false) + count_by p ys
count_option p None ys = omega arith
count_option p (Some y) ys = count_cons p y ys

-- a count over the results of a partial function
pub count_results : {X Y : Type 0} (f : X → Option Y) (p : Y → Bool) (xs : List X) → count_by p (filter_map f xs) ≡ count_by (λ x. option_map_or p (f x) false) xs
count_results f p [] = refl
count_results {X} {Y} f p (x ∷ xs) =
    count_option p (f x) (filter_map f xs)
    ∙ ap (λ n. one_if (option_map_or p (f x) false) + n) (count_results f p xs)
    ∙ sym (count_cons (λ z. option_map_or p (f z) false) x xs)

pub at_least_one : {X : Type 0} (p : X → Bool) (x : X) (xs : List X) → In x xs → p x ≡ true → 1 ≤ count_by p xs
at_least_one p x [] h e = absurd h
at_least_one p x (y ∷ ys) (inl same) e = let here = count_cons p y ys ∙ ap (λ b. one_if b + count_by p ys) (ap p same ∙ e) in omega (arith, here)
at_least_one p x (y ∷ ys) (inr later) e =
    let rest : 1 ≤ count_by p ys = at_least_one p x ys later e in
    let here = count_cons p y ys in
    omega (arith, here, rest)
