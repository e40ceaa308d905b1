-- Sums over entries that have a key, where a test of keys changes at one of them.
use Rattle.std.proofs.Common.{◌≡◌, ℕ, ◌+◌, Bool, true, false, eqb, cond, List, [], ◌∷◌, Option, Some, None, refl, sym, ap, ◌∙◌, inl, inr, arith, eqb-true}
use Rattle.std.specs.List.{sum_by, count_by}
use Rattle.std.specs.Option.{option_map_or}
use Rattle.std.proofs.lemmas.Bool.{cases_Bool, false_from_ne_true, both_ways, eq-eqb}
use Rattle.std.proofs.lemmas.List.Sums.{sum_by-cons}
use Rattle.history.specs.Sessions.{is_number}

-- what a value counts for, by its key
abbrev pub counted : (ℕ → Bool) → Option ℕ → ℕ → ℕ
counted q None v = 0
counted q (Some t) v = cond (q t) v 0

pub sum_same : {X : Type 0} (f g : X → ℕ) (xs : List X) → ((x : X) → f x ≡ g x) → sum_by f xs ≡ sum_by g xs
sum_same f g [] each = refl
sum_same f g (x ∷ xs) each =
    let rest : sum_by f xs ≡ sum_by g xs = sum_same f g xs each in
    let left = sum_by-cons f x xs in
    let right = sum_by-cons g x xs in
    let here = each x in
    omega (arith, rest, left, right, here)

pub sum_parts : {X : Type 0} (f part g : X → ℕ) (xs : List X) → ((x : X) → f x + part x ≡ g x) → sum_by f xs + sum_by part xs ≡ sum_by g xs
sum_parts f part g [] each = refl
sum_parts f part g (x ∷ xs) each =
    let rest : sum_by f xs + sum_by part xs ≡ sum_by g xs = sum_parts f part g xs each in
    let left = sum_by-cons f x xs in
    let middle = sum_by-cons part x xs in
    let right = sum_by-cons g x xs in
    let here = each x in
    omega (arith, rest, left, middle, right, here)

pub turned : (a b : ℕ) → eqb a b ≡ false → eqb b a ≡ false
turned a b other = false_from_ne_true _ (λ same. both_ways _ other (eq-eqb a b (sym (eqb-true _ _ same))))

-- two tests of numbers that part at one number, which passes the second alone
pub record IsMoved (q r : ℕ → Bool) (s : ℕ) : Type 0 where
  pub without : q s ≡ false
  pub within : r s ≡ true
  pub others : (t : ℕ) → eqb s t ≡ false → q t ≡ r t

moved_one : (q r : ℕ → Bool) (s t v : ℕ) → IsMoved q r s → cond (q t) v 0 + cond (eqb s t) v 0 ≡ cond (r t) v 0
moved_one q r s t v moved = elim (cases_Bool (eqb s t)) [
  | inl same ↦
      let is = eqb-true s t same in
      let out : q t ≡ false = ap q (sym is) ∙ moved.without in
      let here : r t ≡ true = ap r (sym is) ∙ moved.within in
      rw (same, out, here) (omega arith)
  | inr other ↦
      let level = moved.others t other in
      rw (other, level) (omega arith)
]

pub moved_at : (q r : ℕ → Bool) (s v : ℕ) (o : Option ℕ) → IsMoved q r s → counted q o v + counted (λ t. eqb s t) o v ≡ counted r o v
moved_at q r s v None moved = refl
moved_at q r s v (Some t) moved = moved_one q r s t v moved

-- a sum by a test, and what the entries with the one number add, are the sum by the other test
pub sum_moved : {X : Type 0} (key : X → Option ℕ) (value : X → ℕ) (q r : ℕ → Bool) (s : ℕ) (xs : List X) → IsMoved q r s → sum_by (λ x. counted q (key x) (value x)) xs + sum_by (λ x. counted (λ t. eqb s t) (key x) (value x)) xs ≡ sum_by (λ x. counted r (key x) (value x)) xs
sum_moved key value q r s xs moved =
    sum_parts (λ x. counted q (key x) (value x)) (λ x. counted (λ t. eqb s t) (key x) (value x)) (λ x. counted r (key x) (value x)) xs
    (λ x. moved_at q r s (value x) (key x) moved)

counted_level : (q r : ℕ → Bool) (v : ℕ) (o : Option ℕ) → ((t : ℕ) → q t ≡ r t) → counted q o v ≡ counted r o v
counted_level q r v None level = refl
counted_level q r v (Some t) level = ap (λ b. cond b v 0) (level t)

pub sum_level : {X : Type 0} (key : X → Option ℕ) (value : X → ℕ) (q r : ℕ → Bool) (xs : List X) → ((t : ℕ) → q t ≡ r t) → sum_by (λ x. counted q (key x) (value x)) xs ≡ sum_by (λ x. counted r (key x) (value x)) xs
sum_level key value q r xs level = sum_same (λ x. counted q (key x) (value x)) (λ x. counted r (key x) (value x)) xs (λ x. counted_level q r (value x) (key x) level)

-- ---- counts as such sums

counted_test : (q : ℕ → Bool) (o : Option ℕ) → cond (option_map_or q o false) 1 0 ≡ counted q o 1
counted_test q None = refl
counted_test q (Some t) = refl

pub count_counted : {X : Type 0} (key : X → Option ℕ) (q : ℕ → Bool) (xs : List X) → count_by (λ x. option_map_or q (key x) false) xs ≡ sum_by (λ x. counted q (key x) 1) xs
count_counted key q xs = sum_same (λ x. cond (option_map_or q (key x) false) 1 0) (λ x. counted q (key x) 1) xs (λ x. counted_test q (key x))

counted_number : (s : ℕ) (o : Option ℕ) → cond (is_number s o) 1 0 ≡ counted (λ t. eqb s t) o 1
counted_number s None = refl
counted_number s (Some t) = refl

pub count_number : {X : Type 0} (key : X → Option ℕ) (s : ℕ) (xs : List X) → count_by (λ x. is_number s (key x)) xs ≡ sum_by (λ x. counted (λ t. eqb s t) (key x) 1) xs
count_number key s xs = sum_same (λ x. cond (is_number s (key x)) 1 0) (λ x. counted (λ t. eqb s t) (key x) 1) xs (λ x. counted_number s (key x))

-- where a number is the key of one entry, one more passes
pub count_moved : {X : Type 0} (key : X → Option ℕ) (q r : ℕ → Bool) (s : ℕ) (xs : List X) → IsMoved q r s → count_by (λ x. option_map_or q (key x) false) xs + count_by (λ x. is_number s (key x)) xs ≡ count_by (λ x. option_map_or r (key x) false) xs
count_moved key q r s xs moved =
    let sums = sum_moved key (λ x. 1) q r s xs moved in
    let left = count_counted key q xs in
    let middle = count_number key s xs in
    let right = count_counted key r xs in
    omega (arith, sums, left, middle, right)

pub count_level : {X : Type 0} (key : X → Option ℕ) (q r : ℕ → Bool) (xs : List X) → ((t : ℕ) → q t ≡ r t) → count_by (λ x. option_map_or q (key x) false) xs ≡ count_by (λ x. option_map_or r (key x) false) xs
count_level key q r xs level = count_counted key q xs ∙ sum_level key (λ x. 1) q r xs level ∙ sym (count_counted key r xs)
