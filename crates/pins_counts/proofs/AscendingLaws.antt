-- Ascending sessions.
use Rattle.std.proofs.Common.{◌≡◌, refl, sym, ◌∙◌, ap, ℕ, zero, suc, ◌+◌, ◌<◌, ◌≤◌, List, [], ◌∷◌, ◌++◌, take, drop, length, get_or, Bool, true, false, ◌||◌, eqb, eqb-true, inl, inr, Result, Ok, Err, OnOk, OnErr, arith}
use Rattle.std.proofs.lemmas.Bool.{cases_lt}
use Rattle.std.proofs.lemmas.Bool.Decides.{nat_tests}
use Rattle.std.proofs.lemmas.List.{take-append-drop}
use Rattle.pins_counts.specs.Waiting.{awaits, IsAscending}

pub ascending_length : (from below : ℕ) (xs : List ℕ) → IsAscending from below xs → from + length xs ≤ below
ascending_length from below [] is = omega (arith, is)
ascending_length from below (x ∷ xs) is = let rest = ascending_length (x + 1) below xs is.1 in let first = is.0 in omega (arith, rest, first)

pub ascending_raised : (from low high : ℕ) (xs : List ℕ) → low ≤ high → IsAscending from low xs → IsAscending from high xs
ascending_raised from low high [] le is = omega (arith, le, is)
ascending_raised from low high (x ∷ xs) le is = (is.0, ascending_raised (x + 1) low high xs le is.1)

ascending_from : (a b below : ℕ) (xs : List ℕ) → a ≤ b → IsAscending b below xs → IsAscending a below xs
ascending_from a b below [] le is = omega (arith, le, is)
ascending_from a b below (x ∷ xs) le is = ((let first = is.0 in omega (arith, le, first)), is.1)

pub ascending_dropped : (below : ℕ) (xs : List ℕ) → IsAscending 0 below xs → IsAscending 0 below (drop 1 xs)
ascending_dropped below [] is = is
ascending_dropped below (x ∷ xs) is = ascending_from 0 (x + 1) below xs (omega arith) is.1

pub ascending_first : (from below : ℕ) (xs : List ℕ) (k d : ℕ) → IsAscending from below xs → k < length xs → from ≤ get_or xs k d
ascending_first from below [] k d is within = absurd (omega arith)
ascending_first from below (x ∷ xs) zero d is within = is.0
ascending_first from below (x ∷ xs) (suc k) d is within =
    let rest = ascending_first (x + 1) below xs k d is.1 (omega arith) in
    let first = is.0 in
    omega (arith, rest, first)

-- a later one is greater
pub ascending_get : (from below : ℕ) (xs : List ℕ) (j k d : ℕ) → IsAscending from below xs → j < k → k < length xs → get_or xs j d < get_or xs k d
ascending_get from below [] j k d is less within = absurd (omega arith)
ascending_get from below (x ∷ xs) j zero d is less within = absurd (omega arith)
ascending_get from below (x ∷ xs) zero (suc k) d is less within = let rest = ascending_first (x + 1) below xs k d is.1 (omega arith) in omega (arith, rest)
ascending_get from below (x ∷ xs) (suc j) (suc k) d is less within = ascending_get (x + 1) below xs j k d is.1 (omega arith) (omega arith)

-- one more between the lesser and the greater
pub ascending_inserted : (from below : ℕ) (xs : List ℕ) (at s : ℕ) → from ≤ s → s < below → IsAscending from below xs → ((k : ℕ) → k < at → k < length xs → get_or xs k 0 < s)
    → ((k : ℕ) → at ≤ k → k < length xs → s < get_or xs k 0) → IsAscending from below (take at xs ++ s ∷ drop at xs)
ascending_inserted from below [] zero s low high is before behind = (low, omega (arith, high))
ascending_inserted from below [] (suc at) s low high is before behind = (low, omega (arith, high))
ascending_inserted from below (x ∷ xs) zero s low high is before behind = (low, ((let first = behind 0 (omega arith) (omega arith) in omega (arith, first)), is.1))
ascending_inserted from below (x ∷ xs) (suc at) s low high is before behind =
    let first : x < s = before 0 (omega arith) (omega arith) in
    (is.0, ascending_inserted (x + 1) below xs at s (omega (arith, first)) high is.1 (λ k less within. before (suc k) (omega arith) (omega arith)) (λ k least within. behind (suc k) (omega arith) (omega arith)))

or_right : (a b c : Bool) → ((a || b) || c) ≡ (a || (b || c))
or_right true b c = refl
or_right false b c = refl

or_turned : (a b c : Bool) → (a || (b || c)) ≡ (b || (a || c))
or_turned true true c = refl
or_turned true false c = refl
or_turned false b c = refl

awaits-append : (xs ys : List ℕ) (q : ℕ) → awaits (xs ++ ys) q ≡ (awaits xs q || awaits ys q)
awaits-append [] ys q = refl
awaits-append (x ∷ xs) ys q = ap (λ b. eqb q x || b) (awaits-append xs ys q) ∙ sym (or_right (eqb q x) (awaits xs q) (awaits ys q))

pub awaits-inserted : (xs : List ℕ) (at s q : ℕ) → awaits (take at xs ++ s ∷ drop at xs) q ≡ (eqb q s || awaits xs q)
awaits-inserted xs at s q =
    awaits-append (take at xs) (s ∷ drop at xs) q
    ∙ or_turned (awaits (take at xs) q) (eqb q s) (awaits (drop at xs) q)
    ∙ ap (λ b. eqb q s || b) (sym (awaits-append (take at xs) (drop at xs) q) ∙ ap (λ l. awaits l q) (take-append-drop at xs))

same_self : (a : ℕ) → eqb a a ≡ true
same_self a = grind (arith, nat_tests)

or_true : (a b : Bool) → b ≡ true → (a || b) ≡ true
or_true true b is = refl
or_true false b is = is

pub awaits_at : (xs : List ℕ) (k d : ℕ) → k < length xs → awaits xs (get_or xs k d) ≡ true
awaits_at [] k d within = absurd (omega arith)
awaits_at (x ∷ xs) zero d within = ap (λ b. b || awaits xs x) (same_self x)
awaits_at (x ∷ xs) (suc k) d within = or_true _ _ (awaits_at xs k d (omega arith))

or_there : (a b : Bool) → (a ≡ true → b ≡ true) → b ≡ (a || b)
or_there true b is = is refl
or_there false b is = refl

-- adding one that is there changes nothing
pub awaits_again : (xs : List ℕ) (k s q : ℕ) → k < length xs → get_or xs k 0 ≡ s → awaits xs q ≡ (eqb q s || awaits xs q)
awaits_again xs k s q within is =
    or_there (eqb q s) (awaits xs q) (λ same. ap (awaits xs) (eqb-true q s same ∙ sym is) ∙ awaits_at xs k 0 within)

pub awaits_none : (xs : List ℕ) (q : ℕ) → ((k : ℕ) → k < length xs → eqb q (get_or xs k 0) ≡ false) → awaits xs q ≡ false
awaits_none [] q no_one = refl
awaits_none (x ∷ xs) q no_one = ap (λ b. b || awaits xs q) (no_one 0 (omega arith)) ∙ awaits_none xs q (λ k within. no_one (suc k) (omega arith))

less_apart : (a b : ℕ) → a < b → eqb b a ≡ false
less_apart a b less = grind (arith, nat_tests)

more_apart : (a b : ℕ) → a < b → eqb a b ≡ false
more_apart a b less = grind (arith, nat_tests)

ascending_least : (from below : ℕ) (xs : List ℕ) (j k : ℕ) → IsAscending from below xs → j ≤ k → k < length xs → get_or xs j 0 ≤ get_or xs k 0
ascending_least from below xs j k is le within = elim (cases_lt j k) [
  | inl less ↦ (let later = ascending_get from below xs j k 0 is less within in omega (arith, later))
  | inr more ↦ (let e : j ≡ k = omega (arith, le, more) in let same = ap (λ n. get_or xs n 0) e in omega (arith, same))
]

-- none lies between a number and what stands at its place
pub awaits_between : (from below : ℕ) (xs : List ℕ) (at number q s : ℕ) → IsAscending from below xs → ((k d : ℕ) → k < at → get_or xs k d < number)
    → get_or xs at 0 ≡ s → number ≤ q → q < s → awaits xs q ≡ false
awaits_between from below xs at number q s is before there least less = awaits_none xs q (λ k within. elim (cases_lt k at) [
  | inl lower ↦ less_apart _ _ (let b = before k 0 lower in omega (arith, b, least))
  | inr upper ↦ more_apart _ _ (let later = ascending_least from below xs at k is upper within in let same = there in omega (arith, later, same, less))
])

-- none is from a number on that is greater than all
pub awaits_past : (xs : List ℕ) (at number q : ℕ) → ((k d : ℕ) → k < at → get_or xs k d < number) → length xs ≤ at → number ≤ q → awaits xs q ≡ false
awaits_past xs at number q before whole least = awaits_none xs q (λ k within. less_apart _ _ (let b = before k 0 (omega (arith, whole, within)) in omega (arith, b, least)))

-- the session that isn't at its place is less than those from there on
pub ascending_apart : (from below : ℕ) (xs : List ℕ) (at s k : ℕ) → IsAscending from below xs → ((k d : ℕ) → at ≤ k → k < length xs → s ≤ get_or xs k d)
    → (at < length xs → get_or xs at 0 ≡ s → ⊥) → at ≤ k → k < length xs → s < get_or xs k 0
ascending_apart from below xs at s k is behind apart least within =
    let later = ascending_least from below xs at k is least within in
    let here = behind at 0 (omega arith) (omega (arith, least, within)) in
    elim (cases_lt s (get_or xs at 0)) [
      | inl less ↦ omega (arith, less, later)
      | inr more ↦ absurd (apart (omega (arith, least, within)) (omega (arith, more, here)))
    ]

pub get_or_any : (xs : List ℕ) (k d e : ℕ) → k < length xs → get_or xs k d ≡ get_or xs k e
get_or_any [] k d e within = absurd (omega arith)
get_or_any (x ∷ xs) zero d e within = refl
get_or_any (x ∷ xs) (suc k) d e within = get_or_any xs k d e (omega arith)

-- the halves of a search, of which y stands in the middle
pub search_upper : (below : ℕ) (xs : List ℕ) (mid number y k d : ℕ) → IsAscending 0 below xs → mid < length xs → y ≡ get_or xs mid y → y < number → k < mid + 1 → get_or xs k d < number
search_upper below xs mid number y k d is within there less upto =
    let any = get_or_any xs mid y d within in
    elim (cases_lt k mid) [
      | inl lower ↦ (let later = ascending_get 0 below xs k mid d is lower within in omega (arith, later, less, there, any))
      | inr upper ↦ (let e : k ≡ mid = omega (arith, upto, upper) in let same = ap (λ n. get_or xs n d) e in omega (arith, same, less, there, any))
    ]

pub search_lower : (below : ℕ) (xs : List ℕ) (mid number y k d : ℕ) → IsAscending 0 below xs → mid < length xs → y ≡ get_or xs mid y → number ≤ y → mid ≤ k → k < length xs → number ≤ get_or xs k d
search_lower below xs mid number y k d is inside there least from within =
    let any = get_or_any xs mid y d inside in
    elim (cases_lt mid k) [
      | inl lower ↦ (let later = ascending_get 0 below xs mid k d is lower within in omega (arith, later, least, there, any))
      | inr upper ↦ (let e : k ≡ mid = omega (arith, from, upper) in let same = ap (λ n. get_or xs n d) e in omega (arith, same, least, there, any))
    ]

-- what cannot fail succeeds
pub ok_given : {X : Type 0} {E : Type 0} {A : Type 0} {B : Type 0} (r : Result X E) → OnOk r A → OnErr r B → (B → ⊥) → A
ok_given (Ok x) holds failed never = holds
ok_given (Err e) holds failed never = absurd (never failed)

pub length-inserted : (xs : List ℕ) (at s : ℕ) → length (take at xs ++ s ∷ drop at xs) ≡ length xs + 1
length-inserted [] zero s = refl
length-inserted [] (suc at) s = refl
length-inserted (x ∷ xs) zero s = omega arith
length-inserted (x ∷ xs) (suc at) s = let rest = length-inserted xs at s in omega (arith, rest)
