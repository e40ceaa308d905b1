-- Laws of segments.
use Rattle.std.proofs.Common.{◌≡◌, ℕ, ◌+◌, ◌-◌, ◌<◌, ◌≤◌, Bool, true, false, List, [], ◌∷◌, ◌++◌, length, take, drop, Option, Some, None, MatchOption, sym, ap, ◌∙◌, arith, unwrap_or, length-append}
use mathlib.Core.Logic.{⊎_elim}
use Rattle.std.specs.List.{slice_index_or}
use Rattle.std.proofs.lemmas.Bool.{cases_eq}
use Rattle.std.proofs.lemmas.List.{append_assoc, append-nil, get_or_append_left}
use Rattle.std.proofs.Math.Seq.{take-append_seam, drop-append_seam, take-length, drop-length, get_or-append_seam}
use Rattle.ss_base.specs.declared.profile.Numbers.{Numbers}
use Rattle.ss_base.specs.Search.{least, NonePasses, IsLeast}
use Rattle.ss_base.specs.Parts.{parts}
use Rattle.ss_base.proofs.SearchLaws.{least-is, least-one, least-none}
use Rattle.ss_base.proofs.PartsLaws.{IsRule, parts-nil, parts-step}
use Rattle.chunk_name.specs.Pieces.{name_of_bytes}
use Rattle.segmenter.specs.Segments.{ends_behind, ends_at, first_count, segments}

counts : (n : Numbers) (len : ℕ) → 0 < len → (test : ℕ → Bool) (found : Option ℕ) → MatchOption found (NonePasses test 1 len) (IsLeast test 1 len) → 0 < unwrap_or found len
counts n len some test None none = some
counts n len some test (Some k) least = let from = least.from in omega arith

-- a first segment has a chunk
IsRule-first_count : (n : Numbers) → IsRule (first_count n)
unfolding first_count
IsRule-first_count n = record {
  some = λ x xs. counts n (length (x ∷ xs)) (omega arith) (ends_at n (x ∷ xs)) (least (ends_at n (x ∷ xs)) 1 (length (x ∷ xs))) (least-is (ends_at n (x ∷ xs)) 1 (length (x ∷ xs)));
}

-- no chunks are no segments
pub segments-nil : (n : Numbers) → segments n [] ≡ []
unfolding segments
segments-nil n = parts-nil (first_count n)

-- whether a segment ends behind one of the first chunks doesn't depend on those that follow
ends_at-append : (n : Numbers) (front back : List (List ℕ)) (count : ℕ) → 1 ≤ count → count ≤ length front → ends_at n (front ++ back) count ≡ ends_at n front count
ends_at-append n front back count from to =
    ap (λ chunk. ends_behind n count (name_of_bytes chunk)) (get_or_append_left front back [] (count - 1) (omega arith))

-- the test at the chunk behind some others
pub ends_at-seam : (n : Numbers) (front : List (List ℕ)) (chunk : List ℕ) (back : List (List ℕ)) → ends_at n (front ++ chunk ∷ back) (length front + 1) ≡ ends_behind n (length front + 1) (name_of_bytes chunk)
ends_at-seam n front chunk back =
    let last : length front + 1 - 1 ≡ length front = omega arith in
    ap (λ i. ends_behind n (length front + 1) (name_of_bytes (slice_index_or (front ++ chunk ∷ back) i []))) last
    ∙ ap (λ c. ends_behind n (length front + 1) (name_of_bytes c)) (get_or-append_seam front chunk back [])

-- where no segment ends yet, and none ends behind one more chunk, none ends
pub NonePasses-push : (n : Numbers) (front : List (List ℕ)) (chunk : List ℕ) → NonePasses (ends_at n front) 1 (length front) → ends_behind n (length front + 1) (name_of_bytes chunk) ≡ false → NonePasses (ends_at n (front ++ chunk ∷ [])) 1 (length (front ++ chunk ∷ []))
NonePasses-push n front chunk none fails =
    let len = length-append front (chunk ∷ []) in
    record {
      none = λ j from to. ⊎_elim
          (λ here. ap (ends_at n (front ++ chunk ∷ [])) here ∙ ends_at-seam n front chunk [] ∙ fails)
          (λ other. ends_at-append n front (chunk ∷ []) j from (omega (arith, len)) ∙ none.none j from (omega (arith, len)))
          (cases_eq j (length front + 1));
    }

-- the chunks up to one of them, and those behind it
take_through : (front : List (List ℕ)) (chunk : List ℕ) (back : List (List ℕ)) → take (length front + 1) (front ++ chunk ∷ back) ≡ front ++ chunk ∷ []
take_through front chunk back =
    let len : length front + 1 ≡ length (front ++ chunk ∷ []) = omega (arith, length-append front (chunk ∷ [])) in
    ap (take (length front + 1)) (sym (append_assoc front (chunk ∷ []) back))
    ∙ ap (λ k. take k ((front ++ chunk ∷ []) ++ back)) len
    ∙ take-append_seam (front ++ chunk ∷ []) back

drop_through : (front : List (List ℕ)) (chunk : List ℕ) (back : List (List ℕ)) → drop (length front + 1) (front ++ chunk ∷ back) ≡ back
drop_through front chunk back =
    let len : length front + 1 ≡ length (front ++ chunk ∷ []) = omega (arith, length-append front (chunk ∷ [])) in
    ap (drop (length front + 1)) (sym (append_assoc front (chunk ∷ []) back))
    ∙ ap (λ k. drop k ((front ++ chunk ∷ []) ++ back)) len
    ∙ drop-append_seam (front ++ chunk ∷ []) back

first_count-first : (n : Numbers) (front : List (List ℕ)) (chunk : List ℕ) (back : List (List ℕ)) → NonePasses (ends_at n front) 1 (length front) → ends_behind n (length front + 1) (name_of_bytes chunk) ≡ true → first_count n (front ++ chunk ∷ back) ≡ length front + 1
unfolding first_count
first_count-first n front chunk back none ends =
    let whole = front ++ chunk ∷ back in
    let len = length-append front (chunk ∷ back) in
    ap (λ found. unwrap_or found (length whole))
    (least-one (ends_at n whole) 1 (length whole) (length front + 1) (record {
      from = omega arith;
      to = omega (arith, len);
      passes = ends_at-seam n front chunk back ∙ ends;
      before = λ j from to. ends_at-append n front (chunk ∷ back) j from (omega arith) ∙ none.none j from (omega arith);
    }))

first_count-last : (n : Numbers) (chunks : List (List ℕ)) → NonePasses (ends_at n chunks) 1 (length chunks) → first_count n chunks ≡ length chunks
unfolding first_count
first_count-last n chunks none = ap (λ found. unwrap_or found (length chunks)) (least-none (ends_at n chunks) 1 (length chunks) none)

-- a segment that ends behind a chunk is the first, whatever follows
pub segments-first : (n : Numbers) (front : List (List ℕ)) (chunk : List ℕ) (back : List (List ℕ)) → NonePasses (ends_at n front) 1 (length front) → ends_behind n (length front + 1) (name_of_bytes chunk) ≡ true → segments n (front ++ chunk ∷ back) ≡ (front ++ chunk ∷ []) ∷ segments n back
unfolding segments
segments-first n front chunk back none ends =
    let whole = front ++ chunk ∷ back in
    let len = length-append front (chunk ∷ back) in
    let count = first_count-first n front chunk back none ends in
    parts-step (first_count n) (IsRule-first_count n) whole (omega (arith, len))
    ∙ ap (λ k. take k whole ∷ parts (first_count n) (drop k whole)) count
    ∙ ap (λ first. first ∷ parts (first_count n) (drop (length front + 1) whole)) (take_through front chunk back)
    ∙ ap (λ rest. (front ++ chunk ∷ []) ∷ parts (first_count n) rest) (drop_through front chunk back)

-- where none ends, all are the last
pub segments-last : (n : Numbers) (chunks : List (List ℕ)) → NonePasses (ends_at n chunks) 1 (length chunks) → 1 ≤ length chunks → segments n chunks ≡ chunks ∷ []
unfolding segments
segments-last n chunks none some =
    parts-step (first_count n) (IsRule-first_count n) chunks (omega arith)
    ∙ ap (λ k. take k chunks ∷ parts (first_count n) (drop k chunks)) (first_count-last n chunks none)
    ∙ ap (λ first. first ∷ parts (first_count n) (drop (length chunks) chunks)) (take-length chunks)
    ∙ ap (λ rest. chunks ∷ parts (first_count n) rest) (drop-length chunks)
    ∙ ap (λ rest. chunks ∷ rest) (parts-nil (first_count n))

-- What a loop over a stream's chunks keeps: the segments that it was given, and those of what pends with whatever
-- comes, are the stream's.
pub record AreGiven (n : Numbers) (added : List (List ℕ)) (given : List (List (List ℕ))) (pending : List (List ℕ)) : Type 0 where
  pub whole : (later : List (List ℕ)) → segments n (added ++ later) ≡ given ++ segments n (pending ++ later)

-- a chunk behind which no segment ends
pub AreGiven-pends : (n : Numbers) (added : List (List ℕ)) (given : List (List (List ℕ))) (pending : List (List ℕ)) (chunk : List ℕ) → AreGiven n added given pending → AreGiven n (added ++ chunk ∷ []) given (pending ++ chunk ∷ [])
AreGiven-pends n added given pending chunk are = record {
  whole = λ later. ap (segments n) (append_assoc added (chunk ∷ []) later)
      ∙ are.whole (chunk ∷ later)
      ∙ ap (λ xs. given ++ segments n xs) (sym (append_assoc pending (chunk ∷ []) later));
}

-- a chunk behind which a segment ends
pub AreGiven-ends : (n : Numbers) (added : List (List ℕ)) (given : List (List (List ℕ))) (pending : List (List ℕ)) (chunk : List ℕ) → AreGiven n added given pending → ((later : List (List ℕ)) → segments n (pending ++ chunk ∷ later) ≡ (pending ++ chunk ∷ []) ∷ segments n later) → AreGiven n (added ++ chunk ∷ []) (given ++ (pending ++ chunk ∷ []) ∷ []) []
AreGiven-ends n added given pending chunk are first = record {
  whole = λ later. ap (segments n) (append_assoc added (chunk ∷ []) later)
      ∙ are.whole (chunk ∷ later)
      ∙ ap (λ xs. given ++ xs) (first later)
      ∙ sym (append_assoc given ((pending ++ chunk ∷ []) ∷ []) (segments n later));
}

-- at the stream's end
pub AreGiven-end : (n : Numbers) (added : List (List ℕ)) (given : List (List (List ℕ))) (pending : List (List ℕ)) → AreGiven n added given pending → segments n added ≡ given ++ segments n pending
AreGiven-end n added given pending are =
    ap (segments n) (sym (append-nil added)) ∙ are.whole [] ∙ ap (λ xs. given ++ segments n xs) (append-nil pending)
