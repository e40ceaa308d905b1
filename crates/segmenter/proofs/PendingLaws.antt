-- Laws of the chunks that pend.
use Rattle.std.proofs.Common.{◌≡◌, ℕ, ◌-◌, ◌<◌, ◌≤◌, true, List, [], length, refl, ap, sym, ◌∙◌, arith, eq-eqb, ◌||◌, ◌&&◌, ◌==◌, ◌%◌, nat_le}
use mathlib.Core.Logic.{⊎_elim}
use Rattle.std.specs.List.{All, slice_index_or}
use Rattle.std.proofs.lemmas.Bool.{cases_order, false≢true}
use Rattle.std.proofs.Math.Bool.{or-true}
use Rattle.ss_base.specs.declared.limits.TheConstants.{MAX_CHUNK_LEN}
use Rattle.ss_base.specs.declared.profile.Numbers.{Numbers}
use Rattle.chunk_name.specs.Pieces.{name_of_bytes, piece, HasChunkLen}
use Rattle.segmenter.specs.Segments.{last_number, ends_at}
use Rattle.segmenter.specs.Pending.{Pending, IsPending, IsChunk}

-- a segment ends at the greatest number of chunks
ends_at-most : (n : Numbers) (chunks : List (List ℕ)) → ends_at n chunks n.smax ≡ true
ends_at-most n chunks =
    let name = name_of_bytes (slice_index_or chunks (n.smax - 1) []) in
    ap (λ b. (nat_le n.smin n.smax && (last_number name % n.sdiv == 0)) || b) (eq-eqb n.smax n.smax refl)
    ∙ or-true (nat_le n.smin n.smax && (last_number name % n.sdiv == 0))

-- fewer chunks pend than a segment may have
pub length-pending : (p : Pending) → IsPending p → length p.chunks < p.numbers.smax
length-pending p pending =
    let least = pending.sound.segment in
    let most = pending.sound.segments in
    let full = λ (reached : p.numbers.smax ≤ length p.chunks). false≢true (sym (pending.none_ends.none p.numbers.smax (omega arith) reached) ∙ ends_at-most p.numbers p.chunks) in
    ⊎_elim (λ same. absurd (full (omega arith)))
    (λ other. ⊎_elim (λ below. below) (λ above. absurd (full (omega arith))) other)
    (cases_order (length p.chunks) p.numbers.smax)

-- chunks of these numbers are chunks of some profile
pub HasChunkLen-all : (n : Numbers) (chunks : List (List ℕ)) → n.tmax ≤ MAX_CHUNK_LEN → All (IsChunk n) chunks → All (λ chunk. HasChunkLen (piece chunk)) chunks
HasChunkLen-all n chunks max all = λ k d lt. let chunk = all k d lt in (chunk.0, omega arith)
