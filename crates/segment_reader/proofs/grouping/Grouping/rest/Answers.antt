use Rattle.std.proofs.Common.{◌≡◌, [], ◌++◌, ◌∷◌, List, ℕ, sym, ap, ◌∙◌, subst, if◌then◌else◌, is_some}
use Rattle.std.specs.List.{concat}
use Rattle.std.proofs.lemmas.Bool.{false≢true}
use Rattle.std.proofs.lemmas.List.{append-nil}
use Rattle.ss_base.specs.declared.profile.Numbers.{Numbers}
use Rattle.segmenter.specs.Segments.{segments}
use Rattle.segmenter.proofs.SegmentsLaws.{segments-nil}
use Rattle.segment_reader.specs.Grouping.{numbers_in, bytes_in}
use Rattle.segment_reader.proofs.NextLaws.{segments-so_far, next-last, next-rest, bytes-last, nothing}
use Rattle.segment_reader.proofs.grouping.Grouping.rest.Goals as goal

pub returns-in_default-clause-last : goal.returns-in_default-clause-last
returns-in_default-clause-last c =
    let g = c.args.self.now in
    let n = numbers_in g in
    let chunks = g.segmenter.chunks in
    let found = rw c.in_default.is at c.in_ok-chunk.ensures in
    let empty = nothing g.chunker.bytes (λ some. false≢true (found.found.1 some)) in
    let is = ap (λ (l : List ℕ). concat chunks ++ l) empty ∙ append-nil (concat chunks) in
    let same = segments-so_far n chunks g.chunker.bytes c.requires.in_step.chunks ∙ ap (λ (l : List (List ℕ)). segments n (chunks ++ l)) found.cut ∙ ap (segments n) (append-nil chunks) in
    let last = subst (λ (m : Numbers). segments m chunks ≡ (if is_some c.rest-in_default.result then chunks ∷ [] else [])) c.requires.in_step.numbers c.rest-in_default.ensures.last in
    next-rest n chunks (bytes_in g) c.rest-in_default.result is same c.rest-in_default.ensures.found c.rest-in_default.ensures.segment last

pub returns-in-Some-2-clause-last : goal.returns-in-Some-2-clause-last
returns-in-Some-2-clause-last c =
    let g = c.args.self.now in
    let n = numbers_in g in
    let chunks = g.segmenter.chunks in
    let chunk = c.deref.result.now in
    let found = rw c.in-Some.is at c.in_ok-chunk.ensures in
    let added = rw c.in-Some-2.is at c.in_ok-segment.ensures in
    let first = subst (λ (m : Numbers). segments m (chunks ++ chunk ∷ []) ≡ (chunks ++ chunk ∷ []) ∷ segments m []) c.requires.in_step.numbers (added.first []) in
    let is = bytes-last chunks chunk g.chunker.bytes (c.deref.ensures.value ∙ found.chunk) in
    let only =
    segments-so_far n chunks g.chunker.bytes c.requires.in_step.chunks
    ∙ ap (λ (l : List (List ℕ)). segments n (chunks ++ l)) (found.cut ∙ ap (λ (l : List ℕ). l ∷ []) (sym c.deref.ensures.value))
    ∙ first
    ∙ ap (λ (l : List (List (List ℕ))). (chunks ++ chunk ∷ []) ∷ l) (segments-nil n) in
    next-last n (chunks ++ chunk ∷ []) (bytes_in g) c.in-Some-2.segment is only added.segment

pub returns-clause-last : goal.returns-clause-last
returns-clause-last c =
    let g = c.args.self.now in
    let n = numbers_in g in
    let chunks = g.segmenter.chunks in
    let chunk = c.deref.result.now in
    let all = c.add.new.self.chunks in
    let found = rw c.in-Some.is at c.in_ok-chunk.ensures in
    let added = rw c.in_default-2.is at c.in_ok-segment.ensures in
    let is = bytes-last chunks chunk g.chunker.bytes (c.deref.ensures.value ∙ found.chunk) ∙ ap concat (sym added.pending) in
    let same =
    segments-so_far n chunks g.chunker.bytes c.requires.in_step.chunks
    ∙ ap (λ (l : List (List ℕ)). segments n (chunks ++ l)) (found.cut ∙ ap (λ (l : List ℕ). l ∷ []) (sym c.deref.ensures.value))
    ∙ ap (segments n) (sym added.pending) in
    let last = subst (λ (m : Numbers). segments m all ≡ (if is_some c.rest-2.result then all ∷ [] else [])) (added.numbers ∙ c.requires.in_step.numbers) c.rest-2.ensures.last in
    next-rest n all (bytes_in g) c.rest-2.result is same c.rest-2.ensures.found c.rest-2.ensures.segment last
