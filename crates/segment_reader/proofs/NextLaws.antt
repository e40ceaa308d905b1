-- Laws of the next segment of a stream.
use Rattle.std.proofs.Common.{◌≡◌, ℕ, ◌<◌, ◌≤◌, ◌↔◌, true, false, List, [], ◌∷◌, ◌++◌, length, Option, Some, None, refl, sym, ap, ◌∙◌, subst, arith, append_assoc, if◌then◌else◌, is_some}
use Rattle.std.specs.Prelude.{IsSome, IfSome, MatchOption}
use Rattle.std.specs.List.{concat}
use Rattle.std.proofs.lemmas.Bool.{false≢true}
use Rattle.std.proofs.lemmas.List.{append-nil, nil_from_length}
use Rattle.ss_base.specs.declared.profile.Numbers.{Numbers}
use Rattle.tttd_chunker.specs.Cut.{cut}
use Rattle.segmenter.specs.declared.segment.Segment.{Segment}
use Rattle.segmenter.specs.Segment.{HasChunks}
use Rattle.segmenter.specs.Segments.{segments}
use Rattle.segment_reader.specs.declared.grouping.Grouping.{Grouping}
use Rattle.segment_reader.specs.SegmentsOf.{segments_of}
use Rattle.segment_reader.specs.Next.{IsNext}
use Rattle.segment_reader.specs.Grouping.{numbers_in, bytes_in, IsCutSoFar, IsInStep}
use Rattle.segment_reader.proofs.WholeLaws.{segments_of-nil}
use Rattle.segment_reader.proofs.GroupingLaws.{TakesChunk, concat-more}

-- a segment ended behind a chunk that was taken out
pub next-ends : (g h : Grouping) (chunk : List ℕ) (segment : Segment) → IsInStep g → TakesChunk (numbers_in g) g.chunker.bytes h.chunker.bytes chunk → h.segmenter.chunks ≡ []
    → HasChunks segment (g.segmenter.chunks ++ chunk ∷ [])
    → ((later : List (List ℕ)) → segments g.segmenter.numbers (g.segmenter.chunks ++ chunk ∷ later) ≡ (g.segmenter.chunks ++ chunk ∷ []) ∷ segments g.segmenter.numbers later)
    → IsNext (numbers_in g) false segment (bytes_in g) (bytes_in h)
unfolding segments_of
next-ends g h chunk segment step takes is has first =
    let n = numbers_in g in
    let chunks = g.segmenter.chunks in
    let left : bytes_in h ≡ h.chunker.bytes = ap (λ (l : List (List ℕ)). concat l ++ h.chunker.bytes) is in
    let first_of = subst (λ (m : Numbers). (later : List (List ℕ)) → segments m (chunks ++ chunk ∷ later) ≡ (chunks ++ chunk ∷ []) ∷ segments m later) step.numbers first in
    record {
      chunks = chunks ++ chunk ∷ [];
      has = has;
      bytes = ap (λ (l : List ℕ). concat chunks ++ l) takes.taken ∙ sym (concat-more chunks chunk h.chunker.bytes) ∙ ap (λ (l : List ℕ). concat (chunks ++ chunk ∷ []) ++ l) (sym left);
      first = λ more ended.
          ap (λ (l : List ℕ). segments n (cut n l)) (append_assoc (concat chunks) g.chunker.bytes more)
          ∙ ap (segments n) (step.chunks.all more ∙ ap (λ (l : List (List ℕ)). chunks ++ l) (takes.first more))
          ∙ first_of (cut n (h.chunker.bytes ++ more))
          ∙ ap (λ (l : List ℕ). (chunks ++ chunk ∷ []) ∷ segments n (cut n (l ++ more))) (sym left);
    }

-- the segments of bytes that are cut so far
pub segments-so_far : (n : Numbers) (chunks : List (List ℕ)) (bytes : List ℕ) → IsCutSoFar n chunks bytes → segments_of n (concat chunks ++ bytes) ≡ segments n (chunks ++ cut n bytes)
unfolding segments_of
segments-so_far n chunks bytes so =
    subst (λ (l : List ℕ). segments n (cut n (concat chunks ++ l)) ≡ segments n (chunks ++ cut n l)) (append-nil bytes) (ap (segments n) (so.all []))

-- the last segment of a stream, which has ended
pub next-last : (n : Numbers) (chunks : List (List ℕ)) (bytes : List ℕ) (segment : Segment) → bytes ≡ concat chunks → segments_of n bytes ≡ chunks ∷ [] → HasChunks segment chunks → IsNext n true segment bytes []
next-last n chunks bytes segment is only has = record {
  chunks = chunks;
  has = has;
  bytes = is ∙ sym (append-nil (concat chunks));
  first = λ more ended.
      ap (λ (l : List ℕ). segments_of n (bytes ++ l)) (ended refl) ∙ ap (segments_of n) (append-nil bytes) ∙ only
      ∙ ap (λ (l : List (List (List ℕ))). chunks ∷ l) (sym (segments_of-nil n) ∙ ap (segments_of n) (sym (ended refl)));
}

-- a list without items
pub nothing : (xs : List ℕ) → (0 < length xs → ⊥) → xs ≡ []
nothing [] none = refl
nothing (x ∷ xs) none = absurd (none (omega arith))

-- the bytes of the last chunk
pub bytes-last : (chunks : List (List ℕ)) (chunk bytes : List ℕ) → chunk ≡ bytes → concat chunks ++ bytes ≡ concat (chunks ++ chunk ∷ [])
bytes-last chunks chunk bytes is =
    ap (λ (l : List ℕ). concat chunks ++ l) (sym is ∙ sym (append-nil chunk))
    ∙ sym (concat-more chunks chunk [])
    ∙ append-nil (concat (chunks ++ chunk ∷ []))

-- what a segmenter gives at the end of the stream
pub next-rest : (n : Numbers) (chunks : List (List ℕ)) (bytes : List ℕ) (found : Option Segment) → bytes ≡ concat chunks → segments_of n bytes ≡ segments n chunks
    → IsSome found ↔ (1 ≤ length chunks) → IfSome found (λ s. HasChunks s chunks) → segments n chunks ≡ (if is_some found then chunks ∷ [] else [])
    → MatchOption found (bytes ≡ []) (λ segment. IsNext n true segment bytes [])
next-rest n chunks bytes None is same some has last = is ∙ ap concat (nil_from_length chunks (none_of chunks some))
  where
    none_of : (chunks : List (List ℕ)) → IsSome {T = Segment} None ↔ (1 ≤ length chunks) → length chunks ≡ 0
    none_of [] iff = refl
    none_of (c ∷ cs) iff = absurd (false≢true (iff.1 (omega arith)))
next-rest n chunks bytes (Some segment) is same some has last = next-last n chunks bytes segment is (same ∙ last) has
