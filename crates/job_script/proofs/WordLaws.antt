-- Laws of the parts, the words and the lines of bytes.
use Rattle.std.proofs.Common.{◌≡◌, ℕ, ◌+◌, ◌<◌, true, false, not, eqb, List, [], ◌∷◌, length, take, drop, get_or, filter, refl, sym, ap, ◌∙◌, subst, arith}
use Rattle.std.specs.List.{slice_split, onto_first}
use Rattle.std.specs.Str.Lines.{lines, lines_of_parts, strip_carriage_return}
use Rattle.std.proofs.lemmas.Bool.{ne_eqb, eq-eqb}
use Rattle.std.proofs.lemmas.List.Elements.{All-from_get_or}
use Rattle.std.proofs.lemmas.List.Splits.{slice_split_none, slice_split_first, slice_split-cons_no, length-slice_split}
use Rattle.std.proofs.lemmas.List.Sums.{position_or_len_is}
use Rattle.job_script.specs.Words.{parts, words}

-- no byte before a place is the separator
abbrev pub NoneBefore : ℕ → List ℕ → ℕ → Type 0
NoneBefore separator bytes i = (k : ℕ) → k < i → get_or bytes k 0 ≡ separator → ⊥

-- the first part ends at the first separator
pub parts_at : (separator : ℕ) (bytes : List ℕ) (i : ℕ) → i < length bytes → NoneBefore separator bytes i → get_or bytes i 0 ≡ separator → parts separator bytes ≡ take i bytes ∷ parts separator (drop (i + 1) bytes)
parts_at separator bytes i inside before here =
    let p = λ (b : ℕ). eqb b separator in
    let at = position_or_len_is p bytes i 0 (omega arith) (λ k l. ne_eqb (get_or bytes k 0) separator (before k l)) (λ _. eq-eqb (get_or bytes i 0) separator here) in
    let P : ℕ → Type 0 = λ n. slice_split p bytes ≡ take n bytes ∷ slice_split p (drop (n + 1) bytes) in
    subst P at (slice_split_first p bytes 0 (omega arith))

-- without a separator the bytes are the one part
pub parts_none : (separator : ℕ) (bytes : List ℕ) → NoneBefore separator bytes (length bytes) → parts separator bytes ≡ bytes ∷ []
parts_none separator bytes none =
    slice_split_none (λ b. eqb b separator) bytes
    (All-from_get_or (λ b. eqb b separator ≡ false) bytes 0 (λ i l. ne_eqb (get_or bytes i 0) separator (none i l)))

onto_some : (x : ℕ) (ps : List (List ℕ)) (first : List ℕ) (more : List (List ℕ)) → onto_first x ps ≡ first ∷ more → not (eqb (length first) 0) ≡ true
onto_some x [] first more e = let same : x ∷ [] ≡ first = cc in rw (← same) refl
onto_some x (p ∷ ps) first more e = let same : x ∷ p ≡ first = cc in rw (← same) (rw (ne_eqb (length (x ∷ p)) 0 (λ none. absurd (omega arith))) refl)

first_has_bytes : (x : ℕ) (xs first : List ℕ) (more : List (List ℕ)) → (x ≡ 32 → ⊥) → parts 32 (x ∷ xs) ≡ first ∷ more → not (eqb (length first) 0) ≡ true
first_has_bytes x xs first more other e =
    onto_some x (parts 32 xs) first more (sym (slice_split-cons_no (λ b. eqb b 32) x xs (ne_eqb x 32 other)) ∙ e)

-- the first part of a line that begins with no space is its first word
pub first_word : (line first : List ℕ) (more : List (List ℕ)) → 0 < length line → ((rest : List ℕ) → line ≡ 32 ∷ rest → ⊥) → parts 32 line ≡ first ∷ more → words line ≡ first ∷ filter (λ part. not (eqb (length part) 0)) more
first_word [] first more some front e = absurd (omega arith)
first_word (x ∷ xs) first more some front e =
    let has = first_has_bytes x xs first more (λ same. front xs (ap (λ b. b ∷ xs) same)) e in
    ap (filter (λ part. not (eqb (length part) 0))) e ∙ rw has refl

lines_cons : (first : List ℕ) (ps : List (List ℕ)) → 0 < length ps → lines_of_parts (first ∷ ps) ≡ strip_carriage_return first ∷ lines_of_parts ps
lines_cons first [] some = absurd (omega arith)
lines_cons first (p ∷ ps) some = refl

-- the first part before a line feed is the first line
pub first_line : (bytes first behind : List ℕ) → parts 10 bytes ≡ first ∷ parts 10 behind → lines bytes ≡ strip_carriage_return first ∷ lines behind
first_line bytes first behind e =
    let many = length-slice_split (λ b. eqb b 10) behind in
    ap lines_of_parts e ∙ lines_cons first (parts 10 behind) (omega arith)
