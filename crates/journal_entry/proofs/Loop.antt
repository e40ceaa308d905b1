-- Reading items one after another, as a loop does.
use Rattle.std.proofs.Common.{◌≡◌, ℕ, suc, ◌-◌, ◌+◌, ◌≤◌, ◌<◌, List, [], ◌∷◌, ◌++◌, Option, Some, None, refl, sym, ap, ◌∙◌, append_assoc, arith}
use Rattle.std.proofs.lemmas.List.{append-nil}
use Rattle.journal_entry.specs.declared.fault.ReadError.{ReadError}
use Rattle.journal_entry.specs.declared.fault.ReadError.TheVariants.{Memory, NotEntry}
use Rattle.journal_entry.specs.Reading.{◌>>=◌, Fails, Reader, items_at}

-- what was read before, and what is still read
abbrev pub with_front : {A : Type 0} → List A → Option (List A × List ℕ) → Option (List A × List ℕ)
with_front front read = read >>= λ x. Some (front ++ x.0, x.1)

regroup : {A : Type 0} (front : List A) (a : A) (read : Option (List A × List ℕ)) → with_front front (read >>= λ x. Some (a ∷ x.0, x.1)) ≡ with_front (front ++ a ∷ []) read
regroup {A} front a (Some x) = ap (λ (xs : List A). Some (xs, x.1)) (simp append_assoc)
regroup front a None = refl

pub goes_on : {A : Type 0} (reader : Reader A) (front : List A) (count i : ℕ) (bytes : List ℕ) (a : A) (after : List ℕ) (total : Option (List A × List ℕ)) → i < count → reader bytes ≡ Some (a, after)
    → with_front front (items_at reader (count - i) bytes) ≡ total → with_front (front ++ a ∷ []) (items_at reader (count - (i + 1)) after) ≡ total
unfolding items_at
goes_on reader front count i bytes a after total lt h so_far =
    let k : count - i ≡ suc (count - (i + 1)) = omega arith in
    let one : with_front front (items_at reader (count - i) bytes) ≡ with_front (front ++ a ∷ []) (items_at reader (count - (i + 1)) after) = rw (k, h) (regroup front a (items_at reader (count - (i + 1)) after)) in
    sym one ∙ so_far

pub ends : {A : Type 0} (reader : Reader A) (e : ReadError) (front : List A) (count i : ℕ) (bytes : List ℕ) (total : Option (List A × List ℕ)) → i < count → Fails e (reader bytes)
    → with_front front (items_at reader (count - i) bytes) ≡ total → Fails e total
unfolding items_at
ends reader Memory front count i bytes total lt h so_far = tt
ends reader NotEntry front count i bytes total lt h so_far =
    let k : count - i ≡ suc (count - (i + 1)) = omega arith in
    let one : with_front front (items_at reader (count - i) bytes) ≡ None = rw (k, h) refl in
    sym so_far ∙ one

pub is_done : {A : Type 0} (reader : Reader A) (front : List A) (count i : ℕ) (bytes : List ℕ) (total : Option (List A × List ℕ)) → count ≤ i → with_front front (items_at reader (count - i) bytes) ≡ total → total ≡ Some (front, bytes)
unfolding items_at
is_done {A} reader front count i bytes total le so_far =
    let k : count - i ≡ 0 = omega arith in
    let one : with_front front (items_at reader (count - i) bytes) ≡ Some (front, bytes) = rw k (ap (λ (xs : List A). Some (xs, bytes)) (append-nil front)) in
    sym so_far ∙ one
