-- The segments of a stream hold its bytes.
use Rattle.std.proofs.Common.{◌≡◌, ℕ, zero, suc, ◌<◌, ◌≤◌, Bool, List, [], ◌∷◌, ◌++◌, length, take, drop, Option, Some, None, MatchOption, refl, ap, ◌∙◌, arith, unwrap_or, length-drop}
use Rattle.std.specs.List.{concat, flat_map}
use Rattle.std.proofs.lemmas.List.{take-append-drop}
use Rattle.ss_base.specs.declared.profile.Numbers.{Numbers}
use Rattle.ss_base.specs.Profile.{AreSound}
use Rattle.ss_base.specs.Search.{least, NonePasses, IsLeast}
use Rattle.ss_base.specs.Parts.{parts, parts_within}
use Rattle.ss_base.proofs.SearchLaws.{least-is}
use Rattle.ss_base.proofs.PartsLaws.{IsRule}
use Rattle.tttd_chunker.specs.Cut.{cut}
use Rattle.tttd_chunker.proofs.CutLaws.{cut-whole}
use Rattle.segmenter.specs.Segments.{ends_at, first_count, segments}
use Rattle.segment_reader.specs.SegmentsOf.{segments_of}

-- lists, one behind another
abbrev pub flat : {X : Type 0} → List (List X) → List X
flat lists = flat_map (λ (l : List _). l) lists

-- the parts of a list are its items
within_whole : {X : Type 0} (count : ℕ) (first : List X → ℕ) (xs : List X) → IsRule first → length xs ≤ count → flat (parts_within count first xs) ≡ xs
unfolding parts_within
within_whole zero first [] rule most = refl
within_whole zero first (x ∷ xs) rule most = absurd (omega arith)
within_whole (suc count) first [] rule most = refl
within_whole (suc count) first (x ∷ xs) rule most =
    let k = first (x ∷ xs) in
    let some = rule.some x xs in
    let rest = length-drop k (x ∷ xs) in
    ap (λ (l : List _). take k (x ∷ xs) ++ l) (within_whole count first (drop k (x ∷ xs)) rule (omega (arith, rest, some, most)))
    ∙ take-append-drop k (x ∷ xs)

parts_whole : {X : Type 0} (first : List X → ℕ) (xs : List X) → IsRule first → flat (parts first xs) ≡ xs
unfolding parts
parts_whole first xs rule = within_whole (length xs) first xs rule (omega arith)

-- a first segment has a chunk
some_counted : (len : ℕ) → 0 < len → (test : ℕ → Bool) (found : Option ℕ) → MatchOption found (NonePasses test 1 len) (IsLeast test 1 len) → 0 < unwrap_or found len
some_counted len some test None none = some
some_counted len some test (Some k) least = let from = least.from in omega arith

first_rule : (n : Numbers) → IsRule (first_count n)
unfolding first_count
first_rule n = record {
  some = λ x xs. some_counted (length (x ∷ xs)) (omega arith) (ends_at n (x ∷ xs)) (least (ends_at n (x ∷ xs)) 1 (length (x ∷ xs))) (least-is (ends_at n (x ∷ xs)) 1 (length (x ∷ xs)));
}

joined : (chunks : List (List ℕ)) → concat chunks ≡ flat chunks
joined [] = refl
joined (c ∷ chunks) = ap (λ (l : List ℕ). c ++ l) (joined chunks)

-- the segments' chunks are the stream's bytes
pub segments_whole : (n : Numbers) (bytes : List ℕ) → AreSound n → concat (flat (segments_of n bytes)) ≡ bytes
unfolding segments_of segments
segments_whole n bytes sound =
    ap concat (parts_whole (first_count n) (cut n bytes) (first_rule n))
    ∙ joined (cut n bytes)
    ∙ cut-whole n bytes sound
