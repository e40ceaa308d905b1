-- Laws of a stream on its way from bytes to segments.
use Rattle.std.proofs.Common.{◌≡◌, ℕ, ◌+◌, ◌-◌, ◌*◌, ◌<◌, ◌≤◌, Bool, true, false, List, [], ◌∷◌, ◌++◌, length, refl, sym, ap, ◌∙◌, subst, arith, append_assoc, length-append, ◌||◌, ◌&&◌, ◌==◌, ◌%◌, nat_le, eq-eqb}
use mathlib.Core.Logic.{⊎_elim}
use Rattle.std.specs.List.{All, concat, slice_index_or}
use Rattle.std.proofs.lemmas.Bool.{cases_order, false≢true}
use Rattle.std.proofs.lemmas.List.{append-nil}
use Rattle.std.proofs.lemmas.List.Folds.{concat-append}
use Rattle.std.proofs.lemmas.List.Elements.{All-push, All-tail}
use Rattle.std.proofs.Math.Bool.{or-true}
use Rattle.std.proofs.Math.Nat.{mul-le-mul_left}
use Rattle.ss_base.specs.declared.profile.Profile.{Profile}
use Rattle.ss_base.specs.declared.profile.Numbers.{Numbers}
use Rattle.ss_base.specs.Profile.{numbers_of, AreSound}
use Rattle.ss_base.proofs.SoundLaws.{AreSound-numbers_of}
use Rattle.chunk_name.specs.Pieces.{name_of_bytes}
use Rattle.tttd_chunker.specs.Cut.{has_cut, cut}
use Rattle.tttd_chunker.proofs.StreamLaws.{has_cut-few}
use Rattle.segmenter.specs.Pending.{Pending, IsPending, IsChunk}
use Rattle.segmenter.specs.Segments.{last_number, ends_behind, ends_at}
use Rattle.segmenter.proofs.SegmentsLaws.{NonePasses-push}
use Rattle.segment_reader.specs.declared.grouping.Grouping.{Grouping}
use Rattle.segment_reader.specs.Whole.{whole_chunks, has_end, has_segment}
use Rattle.segment_reader.specs.Grouping.{numbers_in, bytes_in, IsCutSoFar, IsInStep, HasNone}
use Rattle.segment_reader.proofs.WholeLaws.{whole_chunks-first, whole_chunks-none, has_end-none}

-- the bytes of one more chunk
pub concat-more : (chunks : List (List ℕ)) (chunk rest : List ℕ) → concat (chunks ++ chunk ∷ []) ++ rest ≡ concat chunks ++ (chunk ++ rest)
concat-more chunks chunk rest =
    ap (λ (l : List ℕ). l ++ rest) (concat-append chunks (chunk ∷ []) ∙ ap (λ (l : List ℕ). concat chunks ++ l) (append-nil chunk))
    ∙ append_assoc (concat chunks) chunk rest

-- a chunk was taken out of these bytes, which is the first of their cut whatever comes
pub record TakesChunk (n : Numbers) (old new chunk : List ℕ) : Type 0 where
  pub found : has_cut n old ≡ true
  pub taken : old ≡ chunk ++ new
  pub first : (more : List ℕ) → cut n (old ++ more) ≡ chunk ∷ cut n (new ++ more)
  pub some : 0 < length chunk
  pub most : length chunk ≤ n.tmax

-- one more chunk stands before the cut
pub IsCutSoFar-next : (n : Numbers) (chunks : List (List ℕ)) (old new chunk : List ℕ) → AreSound n → IsCutSoFar n chunks old → TakesChunk n old new chunk → IsCutSoFar n (chunks ++ chunk ∷ []) new
IsCutSoFar-next n chunks old new chunk sound so takes =
    let same = λ (more : List ℕ).
    concat-more chunks chunk (new ++ more)
    ∙ ap (λ (l : List ℕ). concat chunks ++ l) (sym (append_assoc chunk new more) ∙ ap (λ (l : List ℕ). l ++ more) (sym takes.taken)) in
    record {
      all = λ more.
          ap (cut n) (same more) ∙ so.all more ∙ ap (λ (l : List (List ℕ)). chunks ++ l) (takes.first more)
          ∙ sym (append_assoc chunks (chunk ∷ []) (cut n (new ++ more)));
      ended = λ more.
          ap (whole_chunks n) (same more) ∙ so.ended more
          ∙ ap (λ (l : List (List ℕ)). chunks ++ l) (whole_chunks-first n old new chunk sound takes.found takes.taken takes.first more)
          ∙ sym (append_assoc chunks (chunk ∷ []) (whole_chunks n (new ++ more)));
    }

not_true : (b : Bool) → (b ≡ true → ⊥) → b ≡ false
not_true true never = absurd (never refl)
not_true false never = refl

-- one more chunk pends, behind which no segment ends
IsPending-push : (p q : Pending) (chunk : List ℕ) → IsPending p → 0 < length chunk → length chunk ≤ p.numbers.tmax → (ends_behind p.numbers (length p.chunks + 1) (name_of_bytes chunk) ≡ true → ⊥)
    → q.numbers ≡ p.numbers → q.chunks ≡ p.chunks ++ chunk ∷ [] → IsPending q
IsPending-push p q chunk pending some most never same is =
    let now : Pending = record { numbers = p.numbers; chunks = p.chunks ++ chunk ∷ [] } in
    let kept : IsPending now = record {
      sound = pending.sound;
      sizes = All-push (IsChunk p.numbers) p.chunks chunk pending.sizes (omega arith, most);
      none_ends = NonePasses-push p.numbers p.chunks chunk pending.none_ends (not_true (ends_behind p.numbers (length p.chunks + 1) (name_of_bytes chunk)) never);
    } in
    let equal : now ≡ q = λ i. record { numbers = sym same i; chunks = sym is i } in
    subst IsPending equal kept

-- one more chunk pends, behind which no segment ends
pub in_step-more : (g h : Grouping) (chunk : List ℕ) → IsInStep g → TakesChunk (numbers_in g) g.chunker.bytes h.chunker.bytes chunk → h.chunker.profile ≡ g.chunker.profile
    → h.segmenter.numbers ≡ g.segmenter.numbers → h.segmenter.chunks ≡ g.segmenter.chunks ++ chunk ∷ [] → (ends_behind g.segmenter.numbers (length g.segmenter.chunks + 1) (name_of_bytes chunk) ≡ true → ⊥) → IsInStep h
in_step-more g h chunk step takes profile numbers is never =
    let n = numbers_in g in
    let most : length chunk ≤ g.segmenter.numbers.tmax = subst (λ (m : Numbers). length chunk ≤ m.tmax) (sym step.numbers) takes.most in
    let chunks = IsCutSoFar-next n g.segmenter.chunks g.chunker.bytes h.chunker.bytes chunk (AreSound-numbers_of g.chunker.profile) step.chunks takes in
    record {
      numbers = numbers ∙ step.numbers ∙ ap numbers_of (sym profile);
      pending = IsPending-push g.segmenter h.segmenter chunk step.pending takes.some most never numbers is;
      chunks = subst (λ (p : Profile). IsCutSoFar (numbers_of p) h.segmenter.chunks h.chunker.bytes) (sym profile)
          (subst (λ (l : List (List ℕ)). IsCutSoFar n l h.chunker.bytes) (sym is) chunks);
    }

-- the same bytes pend
pub bytes_in-more : (g h : Grouping) (chunk : List ℕ) → g.chunker.bytes ≡ chunk ++ h.chunker.bytes → h.segmenter.chunks ≡ g.segmenter.chunks ++ chunk ∷ [] → bytes_in h ≡ bytes_in g
bytes_in-more g h chunk taken is =
    ap (λ (l : List (List ℕ)). concat l ++ h.chunker.bytes) is
    ∙ concat-more g.segmenter.chunks chunk h.chunker.bytes
    ∙ ap (λ (l : List ℕ). concat g.segmenter.chunks ++ l) (sym taken)

-- a segment ends at the greatest number of chunks
ends_at-most : (n : Numbers) (chunks : List (List ℕ)) → ends_at n chunks n.smax ≡ true
ends_at-most n chunks =
    let name = name_of_bytes (slice_index_or chunks (n.smax - 1) []) in
    ap (λ b. (nat_le n.smin n.smax && (last_number name % n.sdiv == 0)) || b) (eq-eqb n.smax n.smax refl)
    ∙ or-true (nat_le n.smin n.smax && (last_number name % n.sdiv == 0))

-- fewer chunks pend than a segment may have
length-pending : (p : Pending) → IsPending p → length p.chunks < p.numbers.smax
length-pending p pending =
    let least = pending.sound.segment in
    let most = pending.sound.segments in
    let full = λ (reached : p.numbers.smax ≤ length p.chunks). false≢true (sym (pending.none_ends.none p.numbers.smax (omega arith) reached) ∙ ends_at-most p.numbers p.chunks) in
    ⊎_elim (λ same. absurd (full (omega arith)))
    (λ other. ⊎_elim (λ below. below) (λ above. absurd (full (omega arith))) other)
    (cases_order (length p.chunks) p.numbers.smax)

-- the bytes of chunks of these numbers
length-concat : (n : Numbers) (chunks : List (List ℕ)) → All (IsChunk n) chunks → length (concat chunks) ≤ n.tmax * length chunks
length-concat n [] all = omega arith
length-concat n (c ∷ chunks) all =
    let rest = length-concat n chunks (All-tail (IsChunk n) c chunks all) in
    let one : length c ≤ n.tmax = (all 0 [] (omega arith)).1 in
    omega (arith, length-append c (concat chunks), rest, one)

-- fewer bytes pend than the longest segment has
few_bytes : (n : Numbers) (chunks : List (List ℕ)) (bytes : List ℕ) → length chunks < n.smax → All (IsChunk n) chunks → length bytes < n.tmax → length (concat chunks ++ bytes) < n.smax * n.tmax
few_bytes n chunks bytes count all few =
    let total = length-append (concat chunks) bytes in
    let most = length-concat n chunks all in
    let one : length chunks + 1 ≤ n.smax = omega arith in
    let product = mul-le-mul_left n.tmax one in
    omega (arith, total, most, product, few)

-- no chunk of what pends is whole but those of the segmenter
pub has_none : (g : Grouping) → IsInStep g → has_cut (numbers_in g) g.chunker.bytes ≡ false → HasNone g
unfolding has_segment
has_none g step none =
    let n = numbers_in g in
    let chunks = g.segmenter.chunks in
    let bytes = g.chunker.bytes in
    let sound = AreSound-numbers_of g.chunker.profile in
    let whole : whole_chunks n (concat chunks ++ bytes) ≡ chunks =
    subst (λ (l : List ℕ). whole_chunks n (concat chunks ++ l) ≡ chunks ++ whole_chunks n l) (append-nil bytes) (step.chunks.ended [])
    ∙ ap (λ (l : List (List ℕ)). chunks ++ l) (whole_chunks-none n bytes sound none) ∙ append-nil chunks in
    let ends : has_end n chunks ≡ false = subst (λ (m : Numbers). has_end m chunks ≡ false) step.numbers (has_end-none g.segmenter.numbers chunks step.pending.none_ends) in
    let few = subst (λ (m : Numbers). length bytes < m.tmax → length (concat chunks ++ bytes) < m.smax * m.tmax) step.numbers
    (few_bytes g.segmenter.numbers chunks bytes (length-pending g.segmenter step.pending) step.pending.sizes) in
    record { segment = ap (has_end n) whole ∙ ends; chunk = none; few = few (has_cut-few n bytes none) }
