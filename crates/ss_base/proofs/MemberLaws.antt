-- Members of lists, tests over them, and counts.
use Rattle.std.proofs.Common.{◌≡◌, ◌⊎◌, ℕ, zero, suc, ◌+◌, ◌≤◌, Bool, true, false, cond, List, [], ◌∷◌, ◌++◌, take, reverse, Option, Some, None, refl, sym, ap, ◌∙◌, subst, inl, inr, arith, zero-add}
use mathlib.Core.List.{map}
use Rattle.std.specs.List.{All, Contains, filter, find, filter_map, cons_option, flat_map, list_any, list_all, count_by}
use Rattle.std.proofs.lemmas.Bool.{both_ways, and_parts, or_cases, or_left, or_right, or_parts, false_from_ne_true, cases_Bool}
use Rattle.std.proofs.lemmas.List.{reverse-append}
use Rattle.std.proofs.lemmas.List.Sums.{sum_by-cons}
use Rattle.std.proofs.lemmas.List.Elements.{All-nil, All-cons}

-- the list has the item
abbrev pub In : {X : Type 0} → X → List X → Type 0
In x [] = ⊥
In x (y ∷ ys) = (y ≡ x) ⊎ In x ys

-- ---- tests

pub any_in : {X : Type 0} (p : X → Bool) (xs : List X) → list_any p xs ≡ true → (x : X) × In x xs × (p x ≡ true)
any_in p [] e = absurd (cc)
any_in p (x ∷ xs) e = elim (or_cases (p x) (list_any p xs) e) [
  | inl here ↦ (x, inl refl, here)
  | inr there ↦ let found = any_in p xs there in (found.0, inr found.1, found.2)
]

pub in_any : {X : Type 0} (p : X → Bool) (x : X) (xs : List X) → In x xs → p x ≡ true → list_any p xs ≡ true
in_any p x [] h e = absurd h
in_any p x (y ∷ ys) (inl is) e = or_left (p y) (list_any p ys) (ap p is ∙ e)
in_any p x (y ∷ ys) (inr h) e = or_right (p y) (list_any p ys) (in_any p x ys h e)

pub none_in : {X : Type 0} (p : X → Bool) (x : X) (xs : List X) → In x xs → list_any p xs ≡ false → p x ≡ false
none_in p x xs h none = false_from_ne_true (p x) (λ passes. both_ways (list_any p xs) none (in_any p x xs h passes))

pub none_from : {X : Type 0} (p : X → Bool) (xs : List X) → ((x : X) → In x xs → p x ≡ false) → list_any p xs ≡ false
none_from p xs none = false_from_ne_true (list_any p xs) (λ passes. let found = any_in p xs passes in both_ways (p found.0) (none found.0 found.1) found.2)

pub all_in : {X : Type 0} (p : X → Bool) (x : X) (xs : List X) → In x xs → list_all p xs ≡ true → p x ≡ true
all_in p x [] h all = absurd h
all_in p x (y ∷ ys) (inl same) all = ap p (sym same) ∙ (and_parts (p y) (list_all p ys) all).0
all_in p x (y ∷ ys) (inr later) all = all_in p x ys later (and_parts (p y) (list_all p ys) all).1

in_cons_option : {Y : Type 0} (y : Y) (o : Option Y) (ys : List Y) → In y ys → In y (cons_option o ys)
in_cons_option y None ys h = h
in_cons_option y (Some z) ys h = inr h

-- ---- where the items of a list made from others come from

pub find_in : {X : Type 0} (p : X → Bool) (xs : List X) (x : X) → find p xs ≡ Some x → In x xs × (p x ≡ true)
find_in p [] x e = absurd (cc)
find_in p (y ∷ ys) x e = elim (cases_Bool (p y)) [
  | inl passes ↦ let same : y ≡ x = let at = rw passes at e in cc in (inl same, ap p (sym same) ∙ passes)
  | inr fails ↦ let rest = find_in p ys x (rw fails at e) in (inr rest.0, rest.1)
]

pub filter_in : {X : Type 0} (p : X → Bool) (x : X) (xs : List X) → In x (filter p xs) → In x xs × (p x ≡ true)
filter_in p x [] h = absurd h
filter_in p x (y ∷ ys) h = elim (cases_Bool (p y)) [
  | inl passes ↦ elim (rw passes at h) [
    | inl same ↦ (inl same, ap p (sym same) ∙ passes)
    | inr later ↦ let rest = filter_in p x ys later in (inr rest.0, rest.1)
  ]
  | inr fails ↦ let rest = filter_in p x ys (rw fails at h) in (inr rest.0, rest.1)
]

pub filter_map_in : {X Y : Type 0} (f : X → Option Y) (y : Y) (xs : List X) → In y (filter_map f xs) → (x : X) × In x xs × (f x ≡ Some y)
filter_map_in f y [] h = absurd h
filter_map_in {X} {Y} f y (x ∷ xs) h =
    elim (f x) as (λ (o : Option Y). f x ≡ o → (z : X) × In z (x ∷ xs) × (f z ≡ Some y)) [
      | None ↦ λ e. let rest = filter_map_in f y xs (rw e at h) in (rest.0, inr rest.1, rest.2)
      | Some z ↦ λ e. elim (rw e at h) [
        | inl same ↦ (x, inl refl, e ∙ ap Some same)
        | inr later ↦ let rest = filter_map_in f y xs later in (rest.0, inr rest.1, rest.2)
      ]
    ] refl

pub in_filter_map : {X Y : Type 0} (f : X → Option Y) (x : X) (y : Y) (xs : List X) → In x xs → f x ≡ Some y → In y (filter_map f xs)
in_filter_map f x y [] h e = absurd h
in_filter_map {X} {Y} f x y (z ∷ xs) (inl same) e =
    let is : f z ≡ Some y = ap f same ∙ e in
    rw is (inl refl)
in_filter_map {X} {Y} f x y (z ∷ xs) (inr later) e = in_cons_option y (f z) (filter_map f xs) (in_filter_map f x y xs later e)

pub append_in : {X : Type 0} (x : X) (xs ys : List X) → In x (xs ++ ys) → In x xs ⊎ In x ys
append_in x [] ys h = inr h
append_in x (z ∷ xs) ys (inl same) = inl (inl same)
append_in x (z ∷ xs) ys (inr later) = elim (append_in x xs ys later) [ inl left ↦ inl (inr left) | inr right ↦ inr right ]

pub in_append_left : {X : Type 0} (x : X) (xs ys : List X) → In x xs → In x (xs ++ ys)
in_append_left x [] ys h = absurd h
in_append_left x (z ∷ xs) ys (inl same) = inl same
in_append_left x (z ∷ xs) ys (inr later) = inr (in_append_left x xs ys later)

pub in_append_right : {X : Type 0} (x : X) (xs ys : List X) → In x ys → In x (xs ++ ys)
in_append_right x [] ys h = h
in_append_right x (z ∷ xs) ys h = inr (in_append_right x xs ys h)

pub map_in : {X Y : Type 0} (f : X → Y) (y : Y) (xs : List X) → In y (map f xs) → (x : X) × In x xs × (f x ≡ y)
map_in f y [] h = absurd h
map_in f y (x ∷ xs) (inl same) = (x, inl refl, same)
map_in f y (x ∷ xs) (inr later) = let rest = map_in f y xs later in (rest.0, inr rest.1, rest.2)

pub flat_map_in : {X Y : Type 0} (f : X → List Y) (y : Y) (xs : List X) → In y (flat_map f xs) → (x : X) × In x xs × In y (f x)
flat_map_in f y [] h = absurd h
flat_map_in f y (x ∷ xs) h = elim (append_in y (f x) (flat_map f xs) h) [
  | inl here ↦ (x, inl refl, here)
  | inr later ↦ let rest = flat_map_in f y xs later in (rest.0, inr rest.1, rest.2)
]

pub take_in : {X : Type 0} (x : X) (n : ℕ) (xs : List X) → In x (take n xs) → In x xs
take_in x zero xs h = absurd h
take_in x (suc n) [] h = absurd h
take_in x (suc n) (y ∷ ys) (inl same) = inl same
take_in x (suc n) (y ∷ ys) (inr later) = inr (take_in x n ys later)

-- ---- std's words

pub in_Contains : {X : Type 0} (x : X) (xs : List X) → Contains xs x → In x xs
in_Contains x [] h = absurd (let below = h.1 in omega (arith, below))
in_Contains x (y ∷ ys) (zero, below, is) = inl is
in_Contains x (y ∷ ys) (suc k, below, is) = inr (in_Contains x ys (k, omega (arith, below), is))

pub All-from_in : {X : Type 0} (P : X → Type 0) (xs : List X) → ((x : X) → In x xs → P x) → All P xs
All-from_in P [] each = All-nil P
All-from_in P (x ∷ xs) each = All-cons P x xs (each x (inl refl)) (All-from_in P xs (λ y h. each y (inr h)))

-- ---- counts

pub count_one : {X : Type 0} (p : X → Bool) (x : X) (xs : List X) → p x ≡ true → count_by p (x ∷ xs) ≡ 1 + count_by p xs
count_one p x xs e = sum_by-cons (λ y. cond (p y) 1 0) x xs ∙ ap (λ b. cond b 1 0 + count_by p xs) e

pub count_other : {X : Type 0} (p : X → Bool) (x : X) (xs : List X) → p x ≡ false → count_by p (x ∷ xs) ≡ count_by p xs
count_other p x xs e = sum_by-cons (λ y. cond (p y) 1 0) x xs ∙ ap (λ b. cond b 1 0 + count_by p xs) e ∙ zero-add (count_by p xs)

pub count_at_most : {X : Type 0} (p q : X → Bool) (xs : List X) → ((x : X) → In x xs → p x ≡ true → q x ≡ true) → count_by p xs ≤ count_by q xs
count_at_most p q [] implies = omega arith
count_at_most p q (x ∷ xs) implies =
    let rest : count_by p xs ≤ count_by q xs = count_at_most p q xs (λ y h e. implies y (inr h) e) in
    elim (cases_Bool (p x)) [
      | inl passes ↦ let here = count_one p x xs passes in let there = count_one q x xs (implies x (inl refl) passes) in omega (arith, here, there, rest)
      | inr fails ↦ elim (cases_Bool (q x)) [
        | inl other ↦ let here = count_other p x xs fails in let there = count_one q x xs other in omega (arith, here, there, rest)
        | inr neither ↦ let here = count_other p x xs fails in let there = count_other q x xs neither in omega (arith, here, there, rest)
      ]
    ]

pub count_none : {X : Type 0} (p : X → Bool) (xs : List X) → list_any p xs ≡ false → count_by p xs ≡ 0
count_none p [] none = refl
count_none p (x ∷ xs) none = let parts = or_parts (p x) (list_any p xs) none in count_other p x xs parts.0 ∙ count_none p xs parts.1

count_some : {X : Type 0} (p : X → Bool) (x : X) (xs : List X) → In x xs → p x ≡ true → 1 ≤ count_by p xs
count_some p x [] h e = absurd h
count_some p x (y ∷ ys) (inl same) e = let here = count_one p y ys (ap p same ∙ e) in omega (arith, here)
count_some p x (y ∷ ys) (inr later) e =
    let rest : 1 ≤ count_by p ys = count_some p x ys later e in
    elim (cases_Bool (p y)) [
      | inl passes ↦ let more = count_one p y ys passes in omega (arith, rest, more)
      | inr fails ↦ let more = count_other p y ys fails in omega (arith, rest, more)
    ]

-- where at most one item passes, it is the one that is found
pub find_only : {X : Type 0} (p : X → Bool) (x : X) (xs : List X) → count_by p xs ≤ 1 → In x xs → p x ≡ true → find p xs ≡ Some x
find_only p x [] few h e = absurd h
find_only p x (y ∷ ys) few (inl same) e = rw (ap p same ∙ e) (ap Some same)
find_only p x (y ∷ ys) few (inr later) e = elim (cases_Bool (p y)) [
  | inl passes ↦
      let rest : 1 ≤ count_by p ys = count_some p x ys later e in
      let more = count_one p y ys passes in
      absurd (omega (arith, rest, more, few))
  | inr fails ↦
      let more = count_other p y ys fails in
      let fewer : count_by p ys ≤ 1 = omega (arith, more, few) in
      rw fails (find_only p x ys fewer later e)
]

pub reverse_in : {X : Type 0} (x : X) (xs : List X) → In x (reverse xs) → In x xs
reverse_in x [] h = h
reverse_in {X} x (y ∷ ys) h =
    let P : List X → Type 0 = λ l. In x l in
    elim (append_in x (reverse ys) (y ∷ []) (subst P (reverse-append (y ∷ []) ys) h)) [
      | inl older ↦ inr (reverse_in x ys older)
      | inr here ↦ elim here [ inl same ↦ inl same | inr none ↦ absurd none ]
    ]
