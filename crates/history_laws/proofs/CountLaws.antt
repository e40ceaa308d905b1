-- Counts of items that pass a test, and of those that don't.
use Rattle.std.proofs.Common.{◌≡◌, ◌+◌, ◌≤◌, Bool, true, false, not, List, [], ◌∷◌, length, refl, ap, ◌∙◌, inl, inr, arith}
use Rattle.std.specs.List.{filter, count_by}
use Rattle.std.proofs.lemmas.Bool.{cases_Bool}
use Rattle.ss_base.proofs.MemberLaws.{In, count_one, count_other, count_at_most}

kept : {X : Type 0} (q : X → Bool) (x : X) (xs : List X) → q x ≡ true → length (filter q (x ∷ xs)) ≡ 1 + length (filter q xs)
kept q x xs e = rw e (omega arith)

dropped : {X : Type 0} (q : X → Bool) (x : X) (xs : List X) → q x ≡ false → length (filter q (x ∷ xs)) ≡ length (filter q xs)
dropped q x xs e = rw e refl

-- the items that pass and those that are left
pub count_rest : {X : Type 0} (p : X → Bool) (xs : List X) → count_by p xs + length (filter (λ x. not (p x)) xs) ≡ length xs
count_rest p [] = refl
count_rest p (x ∷ xs) =
    let rest : count_by p xs + length (filter (λ y. not (p y)) xs) ≡ length xs = count_rest p xs in
    elim (cases_Bool (p x)) [
      | inl passes ↦ let here = count_one p x xs passes in let left = dropped (λ y. not (p y)) x xs (ap not passes) in omega (arith, here, left, rest)
      | inr fails ↦ let here = count_other p x xs fails in let left = kept (λ y. not (p y)) x xs (ap not fails) in omega (arith, here, left, rest)
    ]

-- where each item that passes the one test passes the other, and one item the other alone, there are more of these
pub count_more : {X : Type 0} (p q : X → Bool) (x : X) (xs : List X) → In x xs → p x ≡ false → q x ≡ true → ((y : X) → In y xs → p y ≡ true → q y ≡ true) → 1 + count_by p xs ≤ count_by q xs
count_more p q x [] h fails passes implies = absurd h
count_more p q x (y ∷ ys) (inl same) fails passes implies =
    let few : count_by p ys ≤ count_by q ys = count_at_most p q ys (λ z later e. implies z (inr later) e) in
    let without = count_other p y ys (ap p same ∙ fails) in
    let with_one = count_one q y ys (ap q same ∙ passes) in
    omega (arith, few, without, with_one)
count_more p q x (y ∷ ys) (inr later) fails passes implies =
    let more : 1 + count_by p ys ≤ count_by q ys = count_more p q x ys later fails passes (λ z h e. implies z (inr h) e) in
    elim (cases_Bool (p y)) [
      | inl here ↦ let one = count_one p y ys here in let other = count_one q y ys (implies y (inl refl) here) in omega (arith, more, one, other)
      | inr none ↦ elim (cases_Bool (q y)) [
        | inl here ↦ let one = count_other p y ys none in let other = count_one q y ys here in omega (arith, more, one, other)
        | inr neither ↦ let one = count_other p y ys none in let other = count_other q y ys neither in omega (arith, more, one, other)
      ]
    ]
