-- Laws of what is whole whatever comes.
use Rattle.std.proofs.Common.{◌≡◌, ℕ, false, true, List, [], ◌∷◌, ◌++◌, length, is_some, refl, sym, ap, ◌∙◌, subst, arith}
use Rattle.std.proofs.lemmas.Bool.{cond-true, cond-false}
use Rattle.std.proofs.lemmas.List.{append-nil}
use Rattle.ss_base.specs.declared.profile.Numbers.{Numbers}
use Rattle.ss_base.specs.Profile.{AreSound}
use Rattle.ss_base.specs.Search.{NonePasses}
use Rattle.ss_base.proofs.SearchLaws.{least-none}
use Rattle.tttd_chunker.specs.Cut.{has_cut, cut}
use Rattle.tttd_chunker.proofs.CutLaws.{cut-nil, cut-step}
use Rattle.tttd_chunker.proofs.StreamLaws.{cut-last}
use Rattle.segmenter.specs.Segments.{ends_at, segments}
use Rattle.segmenter.proofs.SegmentsLaws.{segments-nil}
use Rattle.segment_reader.specs.Whole.{ended_chunks, whole_chunks, has_end}
use Rattle.segment_reader.specs.SegmentsOf.{segments_of}

-- no bytes have no segment
pub segments_of-nil : (n : Numbers) → segments_of n [] ≡ []
unfolding segments_of
segments_of-nil n = ap (segments n) (cut-nil n) ∙ segments-nil n

-- a chunk that has its end, or that others follow, stands
ended_chunks-first : (n : Numbers) (chunk : List ℕ) (chunks : List (List ℕ)) → (chunks ≡ [] → has_cut n chunk ≡ true) → ended_chunks n (chunk ∷ chunks) ≡ chunk ∷ ended_chunks n chunks
ended_chunks-first n chunk [] last = cond-true (has_cut n chunk) (chunk ∷ []) [] (last refl)
ended_chunks-first n chunk (next ∷ chunks) last = refl

no_item : {A : Type 0} (x : A) (xs : List A) → x ∷ xs ≡ [] → ⊥
no_item x xs is = cc

-- bytes that are cut into no chunk are none
cut-none : (n : Numbers) (bytes : List ℕ) → AreSound n → cut n bytes ≡ [] → bytes ≡ []
cut-none n [] sound none = refl
cut-none n (b ∷ bytes) sound none = absurd (no_item _ _ (sym (cut-step n (b ∷ bytes) sound (omega arith)) ∙ none))

append-none : (x y : List ℕ) → x ++ y ≡ [] → x ≡ []
append-none [] y none = refl
append-none (b ∷ x) y none = absurd (no_item b (x ++ y) none)

-- a chunk that is cut whatever comes is the first of those that are whole
pub whole_chunks-first : (n : Numbers) (old new chunk : List ℕ) → AreSound n → has_cut n old ≡ true → old ≡ chunk ++ new → ((more : List ℕ) → cut n (old ++ more) ≡ chunk ∷ cut n (new ++ more))
    → (more : List ℕ) → whole_chunks n (old ++ more) ≡ chunk ∷ whole_chunks n (new ++ more)
unfolding whole_chunks
whole_chunks-first n old new chunk sound found taken first more =
    ap (ended_chunks n) (first more)
    ∙ ended_chunks-first n chunk (cut n (new ++ more))
    (λ none.
    let nothing = append-none new more (cut-none n (new ++ more) sound none) in
    let whole : old ≡ chunk = taken ∙ ap (λ (l : List ℕ). chunk ++ l) nothing ∙ append-nil chunk in
    subst (λ (l : List ℕ). has_cut n l ≡ true) whole found)

-- where no chunk is cut whatever comes, none is whole
pub whole_chunks-none : (n : Numbers) (bytes : List ℕ) → AreSound n → has_cut n bytes ≡ false → whole_chunks n bytes ≡ []
unfolding whole_chunks
whole_chunks-none n [] sound none = ap (ended_chunks n) (cut-nil n)
whole_chunks-none n (b ∷ bytes) sound none =
    ap (ended_chunks n) (cut-last n (b ∷ bytes) sound (omega arith) none) ∙ cond-false (has_cut n (b ∷ bytes)) ((b ∷ bytes) ∷ []) [] none

-- where no segment ends behind one of the chunks, none has its end
pub has_end-none : (n : Numbers) (chunks : List (List ℕ)) → NonePasses (ends_at n chunks) 1 (length chunks) → has_end n chunks ≡ false
unfolding has_end
has_end-none n chunks none = ap (λ found. is_some found) (least-none (ends_at n chunks) 1 (length chunks) none)
