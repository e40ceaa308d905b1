-- Bytes that are the same or differ, and where an item of a list stands.
use Rattle.std.proofs.Common.{◌≡◌, ◌≢◌, ◌⊎◌, ℕ, zero, suc, true, List, [], ◌∷◌, sym, ap, ◌∙◌, subst, inl, inr, arith, Contains}
use mathlib.Core.List.{map}
use Rattle.std.proofs.lemmas.Bool.{false≢true, cases_Bool}
use Rattle.ss_base.specs.declared.name.Name.{Name}
use Rattle.ss_base.specs.Ids.{same_name}
use Rattle.ss_base.proofs.IdLaws.{same_name-self, same_name-true}
use Rattle.ss_base.proofs.MemberLaws.{In}

-- by the test of names
pub same_bytes : (a b : List ℕ) → (a ≡ b) ⊎ (a ≢ b)
same_bytes a b =
    let one : Name = record { 0 = a } in
    let other : Name = record { 0 = b } in
    elim (cases_Bool (same_name one other)) [
      | inl same ↦ inl (ap (λ (n : Name). n.0) (same_name-true one other same))
      | inr fails ↦ inr (λ same. false≢true (sym fails ∙ subst (λ (c : List ℕ). same_name one (record { 0 = c }) ≡ true) same (same_name-self one)))
    ]

pub contains_from_in : {X : Type 0} (x : X) (xs : List X) → In x xs → Contains xs x
contains_from_in x [] there = absurd there
contains_from_in x (y ∷ ys) (inl is) = (zero, omega arith, is)
contains_from_in x (y ∷ ys) (inr later) = let (k, below, is) = contains_from_in x ys later in (suc k, omega (arith, below), is)

pub in_map : {X Y : Type 0} (f : X → Y) (x : X) (xs : List X) → In x xs → In (f x) (map f xs)
in_map f x [] there = absurd there
in_map f x (y ∷ ys) (inl is) = inl (ap f is)
in_map f x (y ∷ ys) (inr later) = inr (in_map f x ys later)
