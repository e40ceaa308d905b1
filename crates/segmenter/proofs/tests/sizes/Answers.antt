use Rattle.std.proofs.Common.{◌≡◌, ℕ, ◌+◌, ◌<◌, List, [], ◌∷◌, ◌++◌, length, take, map, get_or, subst, sym, ap, ◌∙◌, arith, rules, vec_len}
use Rattle.std.proofs.lemmas.List.{take_more, map-append, length-map, append-nil}
use Rattle.std.proofs.Math.Seq.{take-length}
use Rattle.chunk_name.specs.Pieces.{piece}
use Rattle.ss_base.specs.Profile.{numbers_of}
use Rattle.ss_base.specs.declared.profile.Profile.TheVariants.{Tiny}
use Rattle.ss_base.specs.declared.profile.Numbers.{Numbers}
use Rattle.segmenter.specs.Segments.{segments}
use Rattle.segmenter.proofs.SegmentsLaws.{AreGiven, AreGiven-pends, AreGiven-ends, AreGiven-end}
use Rattle.segmenter.proofs.tests.sizes.Goals as goal
use Rattle.segmenter.proofs.tests.sizes.Goals.{in-Some+in_ok-push, in_default, in-Some-rest+in_ok-push-2, in_default-rest}

-- each byte as a chunk
chunks_of : List ℕ → List (List ℕ)
chunks_of text = map (λ b. b ∷ []) text

lengths_of : List (List (List ℕ)) → List ℕ
lengths_of groups = map (λ s. length s) groups

pub loop-b-preserved : goal.loop-b-preserved
unfolding chunks_of lengths_of
loop-b-preserved c =
    let n = numbers_of Tiny in
    let text = c.args.text.now in
    let i = c.loop-b.b-index in
    let before = c.loop-b.invariant.given in
    let pending = c.loop-b.segmenter.chunks in
    let chunk = get_or text i 0 ∷ [] in
    let in_text : i < length text = omega arith in
    let added : chunks_of (take (i + 1) text) ≡ chunks_of (take i text) ++ chunk ∷ [] =
    ap chunks_of (take_more text i 0 in_text) ∙ map-append (λ b. b ∷ []) (take i text) (get_or text i 0 ∷ []) in
    elim c.match-branch-2.branch [
      | in-Some+in_ok-push w ↦
          (let ends = rw w.in-Some.is at c.in_ok-segment.ensures in
          let all = pending ++ chunk ∷ [] in
          let held : vec_len w.in-Some.segment.pieces ≡ length w.in-Some.segment.pieces.items = search rules in
          let count : w.len.result ≡ length all = w.len.ensures ∙ held ∙ ap length ends.segment.pieces ∙ length-map all piece in
          let first = subst (λ (m : Numbers). (later : List (List ℕ)) → segments m (pending ++ chunk ∷ later) ≡ all ∷ segments m later) c.loop-b.invariant.numbers ends.first in
          record {
            numbers = ends.numbers ∙ c.loop-b.invariant.numbers;
            given = (
              before.0 ++ all ∷ [],
              ap (λ v. v.items) w.sizes-is ∙ w.in_ok-push.ensures.items
                  ∙ ap (λ xs. xs ++ w.len.result ∷ []) before.1
                  ∙ ap (λ k. lengths_of before.0 ++ k ∷ []) count
                  ∙ sym (map-append (λ s. length s) before.0 (all ∷ [])),
              subst (λ added. AreGiven n added (before.0 ++ all ∷ []) c.add.new.self.chunks) (sym added)
                  (subst (λ now. AreGiven n (chunks_of (take i text) ++ chunk ∷ []) (before.0 ++ all ∷ []) now) (sym ends.pending)
                  (AreGiven-ends n (chunks_of (take i text)) before.0 pending chunk before.2 first)),
            );
          })
      | in_default w ↦
          (let pends = rw w.in_default.is at c.in_ok-segment.ensures in
          record {
            numbers = pends.numbers ∙ c.loop-b.invariant.numbers;
            given = (before.0, ap (λ v. v.items) w.sizes-is ∙ before.1, subst (λ added. AreGiven n added before.0 c.add.new.self.chunks) (sym added) (subst (λ now. AreGiven n (chunks_of (take i text) ++ chunk ∷ []) before.0 now) (sym pends.pending) (AreGiven-pends n (chunks_of (take i text)) before.0 pending chunk before.2)));
          })
    ]

pub returns : goal.returns
unfolding chunks_of lengths_of
returns c =
    let n = numbers_of Tiny in
    let text = c.args.text.now in
    let i = c.loop-b.b-index in
    let before = c.loop-b.invariant.given in
    let pending = c.loop-b.segmenter.chunks in
    let ended : i ≡ length text = omega arith in
    let whole : chunks_of (take i text) ≡ chunks_of text = ap (λ k. chunks_of (take k text)) ended ∙ ap chunks_of (take-length text) in
    let given : segments n (chunks_of text) ≡ before.0 ++ segments n pending = ap (segments n) (sym whole) ∙ AreGiven-end n (chunks_of (take i text)) before.0 pending before.2 in
    let sizes : lengths_of (segments n (chunks_of text)) ≡ lengths_of before.0 ++ lengths_of (segments n pending) = ap lengths_of given ∙ map-append (λ s. length s) before.0 (segments n pending) in
    elim c.match-rest.branch [
      | in-Some-rest+in_ok-push-2 w ↦
          (let rest = rw w.in-Some-rest.is at c.rest.ensures in
          let held : vec_len w.in-Some-rest.segment.pieces ≡ length w.in-Some-rest.segment.pieces.items = search rules in
          let count : w.len-in-Some-rest.result ≡ length pending = w.len-in-Some-rest.ensures ∙ held ∙ ap length rest.segment.pieces ∙ length-map pending piece in
          let last = subst (λ (m : Numbers). segments m pending ≡ pending ∷ []) c.loop-b.invariant.numbers rest.last in
          ap (λ v. v.items) w.sizes-is ∙ w.in_ok-push-2.ensures.items
          ∙ ap (λ xs. xs ++ w.len-in-Some-rest.result ∷ []) before.1
          ∙ ap (λ k. lengths_of before.0 ++ k ∷ []) count
          ∙ sym (sizes ∙ ap (λ groups. lengths_of before.0 ++ lengths_of groups) last))
      | in_default-rest w ↦
          (let rest = rw w.in_default-rest.is at c.rest.ensures in
          let last = subst (λ (m : Numbers). segments m pending ≡ []) c.loop-b.invariant.numbers rest.last in
          ap (λ v. v.items) w.sizes-is ∙ before.1 ∙ sym (append-nil (lengths_of before.0))
          ∙ sym (sizes ∙ ap (λ groups. lengths_of before.0 ++ lengths_of groups) last))
    ]
