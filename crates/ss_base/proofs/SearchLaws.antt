-- Laws of the least and the greatest number that pass a test.
use Rattle.std.proofs.Common.{◌≡◌, ℕ, zero, suc, ◌+◌, ◌-◌, ◌<◌, ◌≤◌, Bool, true, false, cond, [], ◌∷◌, ◌++◌, Option, Some, None, MatchOption, refl, sym, ap, ◌∙◌, subst, arith, find, reverse}
use mathlib.Core.Logic.{⊎_elim}
use Rattle.std.specs.List.{range_with_len}
use Rattle.std.proofs.lemmas.Bool.{cases_Bool, cases_eq, cases_order, false≢true}
use Rattle.std.proofs.lemmas.List.{reverse-append}
use Rattle.ss_base.specs.Search.{least, greatest, NonePasses, IsLeast, IsGreatest}

-- above high nothing is left to look at
pub least-above : (p : ℕ → Bool) (low high : ℕ) → high < low → least p low high ≡ None
unfolding least
least-above p low high h = let e : high + 1 - low ≡ 0 = omega arith in ap (λ n. find p (range_with_len low n)) e

-- one step of the search from below
pub least-step : (p : ℕ → Bool) (low high : ℕ) → low ≤ high → least p low high ≡ cond (p low) (Some low) (least p (low + 1) high)
unfolding least
least-step p low high h =
    let e : high + 1 - low ≡ suc (high + 1 - (low + 1)) = omega arith in ap (λ n. find p (range_with_len low n)) e

from_here : (p : ℕ → Bool) (low j : ℕ) → p low ≡ false → low ≤ j → (low + 1 ≤ j → p j ≡ false) → p j ≡ false
from_here p low j fails a later = ⊎_elim (λ same. ap p (sym same) ∙ fails) (λ other. later (omega arith)) (cases_eq low j)

later : (p : ℕ → Bool) (low high : ℕ) → p low ≡ false → (r : Option ℕ) → MatchOption r (NonePasses p (low + 1) high) (IsLeast p (low + 1) high) → MatchOption r (NonePasses p low high) (IsLeast p low high)
later p low high fails None rest = record { none = λ j a b. from_here p low j fails a (λ c. rest.none j c b) }
later p low high fails (Some k) rest =
    record { from = omega arith; to = rest.to; passes = rest.passes; before = λ j a b. from_here p low j fails a (λ c. rest.before j c b) }

found_from_below : (p : ℕ → Bool) (n low high : ℕ) → high + 1 - low ≡ n → MatchOption (least p low high) (NonePasses p low high) (IsLeast p low high)
found_from_below p zero low high e =
    subst (λ r. MatchOption r (NonePasses p low high) (IsLeast p low high)) (sym (least-above p low high (omega arith)))
    (record { none = λ j a b. absurd (omega arith) })
found_from_below p (suc n) low high e =
    let step = least-step p low high (omega arith) in
    let rest = found_from_below p n (low + 1) high (omega arith) in
    let at_step = λ (b : Bool) (e : p low ≡ b). step ∙ ap (λ b. cond b (Some low) (least p (low + 1) high)) e in
    ⊎_elim
    (λ yes. subst (λ r. MatchOption r (NonePasses p low high) (IsLeast p low high)) (sym (at_step true yes))
    (record { from = omega arith; to = omega arith; passes = yes; before = λ j a b. absurd (omega arith) }))
    (λ fails. subst (λ r. MatchOption r (NonePasses p low high) (IsLeast p low high)) (sym (at_step false fails))
    (later p low high fails (least p (low + 1) high) rest))
    (cases_Bool (p low))

-- the least is the least, and where there is none, none passes
pub least-is : (p : ℕ → Bool) (low high : ℕ) → MatchOption (least p low high) (NonePasses p low high) (IsLeast p low high)
least-is p low high = found_from_below p (high + 1 - low) low high refl

range-last : (low n : ℕ) → range_with_len low (suc n) ≡ range_with_len low n ++ (low + n) ∷ []
range-last low zero = let e : low ≡ low + 0 = omega arith in ap (λ x. x ∷ []) e
range-last low (suc n) =
    let e : low + 1 + n ≡ low + suc n = omega arith in
    ap (λ l. low ∷ l) (range-last (low + 1) n ∙ ap (λ x. range_with_len (low + 1) n ++ x ∷ []) e)

-- above high nothing is left to look at
pub greatest-above : (p : ℕ → Bool) (low high : ℕ) → high < low → greatest p low high ≡ None
unfolding greatest
greatest-above p low high h = let e : high + 1 - low ≡ 0 = omega arith in ap (λ n. find p (reverse (range_with_len low n))) e

-- one step of the search from above
pub greatest-step : (p : ℕ → Bool) (low high : ℕ) → low ≤ high + 1 → greatest p low (high + 1) ≡ cond (p (high + 1)) (Some (high + 1)) (greatest p low high)
unfolding greatest
greatest-step p low high h =
    let e : high + 1 + 1 - low ≡ suc (high + 1 - low) = omega arith in
    let top : low + (high + 1 - low) ≡ high + 1 = omega arith in
    ap (λ n. find p (reverse (range_with_len low n))) e
    ∙ ap (λ xs. find p (reverse xs)) (range-last low (high + 1 - low))
    ∙ ap (find p) (reverse-append (range_with_len low (high + 1 - low)) ((low + (high + 1 - low)) ∷ []))
    ∙ ap (λ k. find p (k ∷ reverse (range_with_len low (high + 1 - low)))) top

-- the same with the bound low + n in place of high + 1
record NoneBelow (test : ℕ → Bool) (low n : ℕ) : Type 0 where
  none : (j : ℕ) → low ≤ j → j < low + n → test j ≡ false

record IsGreatestBelow (test : ℕ → Bool) (low n k : ℕ) : Type 0 where
  from : low ≤ k
  to : k < low + n
  passes : test k ≡ true
  after : (j : ℕ) → k < j → j < low + n → test j ≡ false

up_to_here : (p : ℕ → Bool) (top j : ℕ) → p top ≡ false → j < top + 1 → (j < top → p j ≡ false) → p j ≡ false
up_to_here p top j fails a sooner = ⊎_elim (λ same. ap p (sym same) ∙ fails) (λ other. sooner (omega arith)) (cases_eq top j)

sooner : (p : ℕ → Bool) (low n : ℕ) → p (low + n) ≡ false → (r : Option ℕ) → MatchOption r (NoneBelow p low n) (IsGreatestBelow p low n) → MatchOption r (NoneBelow p low (suc n)) (IsGreatestBelow p low (suc n))
sooner p low n fails None rest = record { none = λ j a b. up_to_here p (low + n) j fails (omega arith) (λ c. rest.none j a c) }
sooner p low n fails (Some k) rest =
    let to = rest.to in
    record { from = rest.from; to = omega arith; passes = rest.passes; after = λ j a b. up_to_here p (low + n) j fails (omega arith) (λ c. rest.after j a c) }

found_from_above : (p : ℕ → Bool) (low n : ℕ) → MatchOption (find p (reverse (range_with_len low n))) (NoneBelow p low n) (IsGreatestBelow p low n)
found_from_above p low zero = record { none = λ j a b. absurd (omega arith) }
found_from_above p low (suc n) =
    let top = λ (b : Bool) (e : p (low + n) ≡ b). ap (λ xs. find p (reverse xs)) (range-last low n)
    ∙ ap (find p) (reverse-append (range_with_len low n) ((low + n) ∷ []))
    ∙ ap (λ b. cond b (Some (low + n)) (find p (reverse (range_with_len low n)))) e in
    ⊎_elim
    (λ yes. subst (λ r. MatchOption r (NoneBelow p low (suc n)) (IsGreatestBelow p low (suc n))) (sym (top true yes))
    (record { from = omega arith; to = omega arith; passes = yes; after = λ j a b. absurd (omega arith) }))
    (λ fails. subst (λ r. MatchOption r (NoneBelow p low (suc n)) (IsGreatestBelow p low (suc n))) (sym (top false fails))
    (sooner p low n fails (find p (reverse (range_with_len low n))) (found_from_above p low n)))
    (cases_Bool (p (low + n)))

to_high : (p : ℕ → Bool) (low high n : ℕ) → high + 1 - low ≡ n → (r : Option ℕ) → MatchOption r (NoneBelow p low n) (IsGreatestBelow p low n) → MatchOption r (NonePasses p low high) (IsGreatest p low high)
to_high p low high n e None below = record { none = λ j a b. below.none j a (omega arith) }
to_high p low high n e (Some k) below =
    let from = below.from in
    let to = below.to in
    record { from = from; to = omega arith; passes = below.passes; after = λ j a b. below.after j a (omega arith) }

-- the greatest is the greatest, and where there is none, none passes
pub greatest-is : (p : ℕ → Bool) (low high : ℕ) → MatchOption (greatest p low high) (NonePasses p low high) (IsGreatest p low high)
unfolding greatest
greatest-is p low high =
    to_high p low high (high + 1 - low) refl (find p (reverse (range_with_len low (high + 1 - low)))) (found_from_above p low (high + 1 - low))

one_least : (p : ℕ → Bool) (low high k : ℕ) (r : Option ℕ) → MatchOption r (NonePasses p low high) (IsLeast p low high) → IsLeast p low high k → r ≡ Some k
one_least p low high k None none some = absurd (false≢true (sym (none.none k some.from some.to) ∙ some.passes))
one_least p low high k (Some m) found some =
    let apart = λ (a b : ℕ) (x : IsLeast p low high a) (y : IsLeast p low high b) (lt : a < b). false≢true (sym (y.before a x.from lt) ∙ x.passes) in
    ap Some (⊎_elim (λ same. same) (λ other. ⊎_elim (λ lt. absurd (apart m k found some lt)) (λ lt. absurd (apart k m some found lt)) other) (cases_order m k))

-- there is one least number
pub least-one : (p : ℕ → Bool) (low high k : ℕ) → IsLeast p low high k → least p low high ≡ Some k
least-one p low high k some = one_least p low high k (least p low high) (least-is p low high) some

none_found : (p : ℕ → Bool) (low high : ℕ) (r : Option ℕ) → MatchOption r (NonePasses p low high) (IsLeast p low high) → NonePasses p low high → r ≡ None
none_found p low high None found none = refl
none_found p low high (Some m) found none = absurd (false≢true (sym (none.none m found.from found.to) ∙ found.passes))

-- where none passes there is no least
pub least-none : (p : ℕ → Bool) (low high : ℕ) → NonePasses p low high → least p low high ≡ None
least-none p low high none = none_found p low high (least p low high) (least-is p low high) none

one_greatest : (p : ℕ → Bool) (low high k : ℕ) (r : Option ℕ) → MatchOption r (NonePasses p low high) (IsGreatest p low high) → IsGreatest p low high k → r ≡ Some k
one_greatest p low high k None none some = absurd (false≢true (sym (none.none k some.from some.to) ∙ some.passes))
one_greatest p low high k (Some m) found some =
    let apart = λ (a b : ℕ) (x : IsGreatest p low high a) (y : IsGreatest p low high b) (lt : a < b). false≢true (sym (x.after b lt y.to) ∙ y.passes) in
    ap Some (⊎_elim (λ same. same) (λ other. ⊎_elim (λ lt. absurd (apart m k found some lt)) (λ lt. absurd (apart k m some found lt)) other) (cases_order m k))

-- there is one greatest number
pub greatest-one : (p : ℕ → Bool) (low high k : ℕ) → IsGreatest p low high k → greatest p low high ≡ Some k
greatest-one p low high k some = one_greatest p low high k (greatest p low high) (greatest-is p low high) some

none_found_above : (p : ℕ → Bool) (low high : ℕ) (r : Option ℕ) → MatchOption r (NonePasses p low high) (IsGreatest p low high) → NonePasses p low high → r ≡ None
none_found_above p low high None found none = refl
none_found_above p low high (Some m) found none = absurd (false≢true (sym (none.none m found.from found.to) ∙ found.passes))

-- where none passes there is no greatest
pub greatest-none : (p : ℕ → Bool) (low high : ℕ) → NonePasses p low high → greatest p low high ≡ None
greatest-none p low high none = none_found_above p low high (greatest p low high) (greatest-is p low high) none
