use Rattle.std.proofs.Common.{◌≡◌, ◌+◌, ◌≤◌, true, [], ◌∷◌, ◌++◌, length, subst, sym, ap, ◌∙◌, arith, length-append}
use Rattle.std.proofs.lemmas.List.Elements.{All-push}
use Rattle.chunk_name.specs.Pieces.{name_of_bytes}
use Rattle.segmenter.specs.Segments.{ends_behind, segments}
use Rattle.segmenter.specs.Pending.{Pending, IsChunk}
use Rattle.segmenter.proofs.SegmentsLaws.{segments-first}
use Rattle.segmenter.proofs.PendingLaws.{length-pending, HasChunkLen-all}
use Rattle.segmenter.proofs.segmenter.Segmenter.add.Goals as goal

pub take-requires-clause-bounded : goal.take-requires-clause-bounded
take-requires-clause-bounded c =
    let kept = c.self.inside in
    let few = length-pending (record { numbers = kept.numbers; chunks = kept.chunks }) c.self.invariant in
    let most = c.self.invariant.sound.pieces in
    rw c.in_ok-name.ensures.added (omega (arith, few, most, length-append kept.chunks (c.args.chunk.now ∷ [])))

pub take-requires-clause-lengths : goal.take-requires-clause-lengths
take-requires-clause-lengths c =
    let kept = c.self.inside in
    let fits = subst (λ (p : Pending). length c.args.chunk.now ≤ p.numbers.tmax) (sym c.self.view_is) c.requires.fits in
    rw c.in_ok-name.ensures.added
    (HasChunkLen-all kept.numbers _ c.self.invariant.sound.chunk
    (All-push (IsChunk kept.numbers) kept.chunks c.args.chunk.now c.self.invariant.sizes (c.requires.some, fits)))

pub returns-clause-first : goal.returns-clause-first
returns-clause-first c =
    let kept = c.self.inside in
    let chunk = c.args.chunk.now in
    let count : c.len.result ≡ length kept.chunks + 1 = c.len.ensures ∙ ap length c.in_ok-name.ensures.added ∙ length-append kept.chunks (chunk ∷ []) in
    let ends : ends_behind kept.numbers (length kept.chunks + 1) (name_of_bytes chunk) ≡ true =
    ap (λ k. ends_behind kept.numbers k (name_of_bytes chunk)) (sym count)
    ∙ ap (ends_behind kept.numbers c.len.result) (sym c.in_ok-name.ensures.name)
    ∙ sym c.if-not-ends_behind.ensures in
    λ later. subst (λ (p : Pending). segments p.numbers (p.chunks ++ chunk ∷ later) ≡ (p.chunks ++ chunk ∷ []) ∷ segments p.numbers later) c.self.view_is
    (segments-first kept.numbers kept.chunks chunk later c.self.invariant.none_ends ends)
