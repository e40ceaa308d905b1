use Rattle.std.proofs.Common.{◌≡◌, false, List, ℕ, sym, ap, ◌∙◌, subst}
use Rattle.std.proofs.lemmas.Bool.{false≢true}
use Rattle.ss_base.specs.declared.profile.Numbers.{Numbers}
use Rattle.ss_base.specs.Profile.{numbers_of}
use Rattle.segment_reader.specs.declared.grouping.Grouping.{Grouping}
use Rattle.segment_reader.specs.Grouping.{numbers_in, bytes_in, HasNone}
use Rattle.segment_reader.specs.Next.{IsNext}
use Rattle.segment_reader.proofs.GroupingLaws.{TakesChunk, in_step-more, bytes_in-more, has_none}
use Rattle.segment_reader.proofs.NextLaws.{next-ends}
use Rattle.segment_reader.proofs.grouping.Grouping.next.Goals as goal

pub returns-in-Some-2-clause-some : goal.returns-in-Some-2-clause-some
returns-in-Some-2-clause-some c =
    let g = c.loop-chunk.self in
    let h : Grouping = record { chunker = c.next.new.self; segmenter = c.add.new.self } in
    let found = rw c.in-Some.is at c.in_ok-chunk.ensures in
    let added = rw c.in-Some-2.is at c.in_ok-segment.ensures in
    let taken : TakesChunk (numbers_in g) g.chunker.bytes h.chunker.bytes c.in-Some.chunk.items =
    record { found = sym found.found; taken = found.taken; first = found.cut; some = found.sized.0; most = found.sized.1 } in
    let takes = subst (TakesChunk (numbers_in g) g.chunker.bytes h.chunker.bytes) (sym c.deref.ensures.value) taken in
    let next = next-ends g h c.deref.result.now c.in-Some-2.segment c.loop-chunk.invariant.in_step takes added.pending added.segment added.first in
    subst (λ (n : Numbers). IsNext n false c.in-Some-2.segment (bytes_in c.args.self.now) (bytes_in h)) c.loop-chunk.invariant.numbers
    (subst (λ (bytes : List ℕ). IsNext (numbers_in g) false c.in-Some-2.segment bytes (bytes_in h)) c.loop-chunk.invariant.bytes next)

pub loop-chunk-preserved : goal.loop-chunk-preserved
loop-chunk-preserved c =
    let g = c.loop-chunk.self in
    let h : Grouping = record { chunker = c.next.new.self; segmenter = c.add.new.self } in
    let found = rw c.in-Some.is at c.in_ok-chunk.ensures in
    let added = rw c.in_default-2.is at c.in_ok-segment.ensures in
    let taken : TakesChunk (numbers_in g) g.chunker.bytes h.chunker.bytes c.in-Some.chunk.items =
    record { found = sym found.found; taken = found.taken; first = found.cut; some = found.sized.0; most = found.sized.1 } in
    let takes = subst (TakesChunk (numbers_in g) g.chunker.bytes h.chunker.bytes) (sym c.deref.ensures.value) taken in
    record {
      in_step = in_step-more g h c.deref.result.now c.loop-chunk.invariant.in_step takes found.profile added.numbers added.pending (λ ends. false≢true (added.ends.1 ends));
      numbers = ap numbers_of found.profile ∙ c.loop-chunk.invariant.numbers;
      bytes = bytes_in-more g h c.deref.result.now takes.taken added.pending ∙ c.loop-chunk.invariant.bytes;
    }

pub returns-clause-none : goal.returns-clause-none
returns-clause-none c =
    let g = c.loop-chunk.self in
    let found = rw c.in_default.is at c.in_ok-chunk.ensures in
    let h : Grouping = record { chunker = c.next.new.self; segmenter = g.segmenter } in
    let same : g ≡ h = λ i. record { chunker = record { profile = sym found.profile i; bytes = sym found.none i }; segmenter = g.segmenter } in
    subst HasNone same (has_none g c.loop-chunk.invariant.in_step (sym found.found))
