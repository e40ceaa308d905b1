use Rattle.std.proofs.Common.{◌≡◌, ◌≤◌, [], ◌∷◌, length, subst, ap, ◌∙◌, arith}
use Rattle.std.proofs.lemmas.List.{nil_from_length}
use Rattle.segmenter.specs.Segments.{segments}
use Rattle.segmenter.specs.Pending.{Pending}
use Rattle.segmenter.proofs.SegmentsLaws.{segments-nil, segments-last}
use Rattle.segmenter.proofs.PendingLaws.{length-pending}
use Rattle.segmenter.proofs.segmenter.Segmenter.rest.Goals as goal

pub returns-then-len-eq0-clause-last : goal.returns-then-len-eq0-clause-last
returns-then-len-eq0-clause-last c =
    let kept = c.self.inside in
    let none : kept.chunks ≡ [] = nil_from_length kept.chunks (omega arith) in
    subst (λ (p : Pending). segments p.numbers p.chunks ≡ []) c.self.view_is (ap (segments kept.numbers) none ∙ segments-nil kept.numbers)

pub take-requires-clause-bounded : goal.take-requires-clause-bounded
take-requires-clause-bounded c =
    let kept = c.self.inside in
    let few = length-pending (record { numbers = kept.numbers; chunks = kept.chunks }) c.self.invariant in
    let most = c.self.invariant.sound.pieces in
    omega (arith, few, most)

pub returns-clause-last : goal.returns-clause-last
returns-clause-last c =
    let kept = c.self.inside in
    let some : 1 ≤ length kept.chunks = omega arith in
    subst (λ (p : Pending). segments p.numbers p.chunks ≡ p.chunks ∷ []) c.self.view_is
    (segments-last kept.numbers kept.chunks c.self.invariant.none_ends some)
