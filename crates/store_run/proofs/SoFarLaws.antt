-- What is whole of a stream while its bytes come.
use Rattle.std.proofs.Common.{◌≡◌, ℕ, ◌+◌, Bool, true, false, List, [], ◌∷◌, ◌++◌, length, refl, sym, ap, ◌∙◌, subst, arith}
use Rattle.std.proofs.lemmas.Bool.{cond-true, cond-false}
use Rattle.std.proofs.lemmas.List.{append-nil}
use Rattle.ss_base.specs.declared.profile.Profile.{Profile}
use Rattle.ss_base.specs.declared.profile.Numbers.{Numbers}
use Rattle.ss_base.specs.Profile.{numbers_of, AreSound}
use Rattle.ss_base.specs.Search.{NonePasses}
use Rattle.ss_base.proofs.SoundLaws.{AreSound-numbers_of}
use Rattle.chunk_name.specs.Pieces.{name_of_bytes}
use Rattle.tttd_chunker.specs.Cut.{has_cut, cut}
use Rattle.tttd_chunker.proofs.CutLaws.{cut-nil, cut-step}
use Rattle.tttd_chunker.proofs.StreamLaws.{cut-last}
use Rattle.segmenter.specs.Segments.{ends_behind, ends_at}
use Rattle.segmenter.proofs.SegmentsLaws.{segments-nil, segments-last, NonePasses-push}
use Rattle.std.specs.List.{flat_map}
use Rattle.store_run.specs.Lines.{segment_line, segment_lines}
use Rattle.store_run.specs.declared.line_printer.LinePrinter.{LinePrinter}
use Rattle.store_run.specs.LinePrinter.{still, IsUpToDate}
use Rattle.store_run.specs.SoFar.{Stage, at_end, so_far, ended_parts, chunks_of, segments_of}

-- a part that has an end, or that others follow, stands
ended_parts-first : {A : Type 0} (has_end : List A → Bool) (part : List A) (parts : List (List A)) → (parts ≡ [] → has_end part ≡ true) → ended_parts has_end (part ∷ parts) ≡ part ∷ ended_parts has_end parts
ended_parts-first has_end part [] last = cond-true (has_end part) (part ∷ []) [] (last refl)
ended_parts-first has_end part (next ∷ parts) last = refl

-- one part without an end is none
ended_parts-open : {A : Type 0} (has_end : List A → Bool) (part : List A) → has_end part ≡ false → ended_parts has_end (part ∷ []) ≡ []
ended_parts-open has_end part none = cond-false (has_end part) (part ∷ []) [] none

no_item : {A : Type 0} (x : A) (xs : List A) → x ∷ xs ≡ [] → ⊥
no_item x xs is = cc

-- bytes that are cut into no chunk are none
cut-none : (n : Numbers) (bytes : List ℕ) → AreSound n → cut n bytes ≡ [] → bytes ≡ []
cut-none n [] sound none = refl
cut-none n (b ∷ bytes) sound none = absurd (no_item _ _ (sym (cut-step n (b ∷ bytes) sound (omega arith)) ∙ none))

append-none : (x y : List ℕ) → x ++ y ≡ [] → x ≡ []
append-none [] y none = refl
append-none (b ∷ x) y none = absurd (no_item b (x ++ y) none)

-- a chunk that is cut whatever comes is the first at either stage
pub chunks-first : (p : Profile) (old new chunk : List ℕ) → has_cut (numbers_of p) old ≡ true → old ≡ chunk ++ new → ((more : List ℕ) → cut (numbers_of p) (old ++ more) ≡ chunk ∷ cut (numbers_of p) (new ++ more))
    → (stage : Stage) (more : List ℕ) → chunks_of stage (numbers_of p) (old ++ more) ≡ chunk ∷ chunks_of stage (numbers_of p) (new ++ more)
chunks-first p old new chunk found taken first at_end more = first more
chunks-first p old new chunk found taken first so_far more =
    let n = numbers_of p in
    ap (ended_parts (has_cut n)) (first more)
    ∙ ended_parts-first (has_cut n) chunk (cut n (new ++ more))
    (λ none.
    let nothing = append-none new more (cut-none n (new ++ more) (AreSound-numbers_of p) none) in
    let whole : old ≡ chunk = taken ∙ ap (λ (l : List ℕ). chunk ++ l) nothing ∙ append-nil chunk in
    subst (λ (l : List ℕ). has_cut n l ≡ true) whole found)

-- where no chunk is cut whatever comes, none is so far
pub chunks-none : (p : Profile) (bytes : List ℕ) → has_cut (numbers_of p) bytes ≡ false → chunks_of so_far (numbers_of p) bytes ≡ []
chunks-none p [] none = ap (ended_parts (has_cut (numbers_of p))) (cut-nil (numbers_of p))
chunks-none p (b ∷ bytes) none =
    let n = numbers_of p in
    ap (ended_parts (has_cut n)) (cut-last n (b ∷ bytes) (AreSound-numbers_of p) (omega arith) none)
    ∙ ended_parts-open (has_cut n) (b ∷ bytes) none

-- a printer that is up to date still has just what waits to write
pub still-up_to_date : {L : Type 0} (text : Stage → L → List (List ℕ) → List ℕ) (printer : LinePrinter L) → IsUpToDate text printer → still text so_far printer [] ≡ printer.waiting.items
still-up_to_date text printer up =
    let p = printer.chunker.profile in
    let waiting = printer.waiting.items in
    ap (λ (bytes : List ℕ). waiting ++ text so_far printer.lines (chunks_of so_far (numbers_of p) bytes)) (append-nil printer.chunker.bytes)
    ∙ ap (λ (chunks : List (List ℕ)). waiting ++ text so_far printer.lines chunks) (chunks-none p printer.chunker.bytes up.no_cut)
    ∙ ap (λ (l : List ℕ). waiting ++ l) up.no_line
    ∙ append-nil waiting

-- where no segment ends, none is so far
pub segments-none : (n : Numbers) (chunks : List (List ℕ)) → NonePasses (ends_at n chunks) 1 (length chunks) → segments_of so_far n chunks ≡ []
segments-none n [] none = ap (ended_parts (λ (segment : List (List ℕ)). ends_at n segment (length segment))) (segments-nil n)
segments-none n (c ∷ chunks) none =
    let ended = λ (segment : List (List ℕ)). ends_at n segment (length segment) in
    let all = c ∷ chunks in
    ap (ended_parts ended) (segments-last n all none (omega arith)) ∙ ended_parts-open ended all (none.none (length all) (omega arith) (omega arith))

not_true : (b : Bool) → (b ≡ true → ⊥) → b ≡ false
not_true true never = absurd (never refl)
not_true false never = refl

-- the lines of segments so far, where none ends
pub segment_lines-none : (n : Numbers) (chunks : List (List ℕ)) → NonePasses (ends_at n chunks) 1 (length chunks) → segment_lines so_far n (chunks ++ []) ≡ []
segment_lines-none n chunks none =
    ap (λ (l : List (List ℕ)). segment_lines so_far n l) (append-nil chunks) ∙ ap (flat_map (segment_line n.bits)) (segments-none n chunks none)

-- the same behind one more chunk, behind which none ends
pub segment_lines-pends : (n m : Numbers) (front now : List (List ℕ)) (chunk : List ℕ) → NonePasses (ends_at n front) 1 (length front) → (ends_behind n (length front + 1) (name_of_bytes chunk) ≡ true → ⊥)
    → m ≡ n → now ≡ front ++ chunk ∷ [] → segment_lines so_far m (now ++ []) ≡ []
segment_lines-pends n m front now chunk none never same is =
    ap (λ (k : Numbers). segment_lines so_far k (now ++ [])) same
    ∙ ap (λ (l : List (List ℕ)). segment_lines so_far n (l ++ [])) is
    ∙ segment_lines-none n (front ++ chunk ∷ []) (NonePasses-push n front chunk none (not_true (ends_behind n (length front + 1) (name_of_bytes chunk)) never))

-- the same where a segment has ended behind all chunks
pub segment_lines-start : (n : Numbers) (now : List (List ℕ)) → now ≡ [] → segment_lines so_far n (now ++ []) ≡ []
segment_lines-start n now is =
    ap (λ (l : List (List ℕ)). segment_lines so_far n (l ++ [])) is ∙ segment_lines-none n [] (record { none = λ j from to. absurd (omega arith) })
