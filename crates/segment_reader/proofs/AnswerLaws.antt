-- Laws of the answers.
use Rattle.std.proofs.Common.{◌≡◌, ℕ, ◌+◌, ◌-◌, ◌≤◌, Bool, true, false, List, [], ◌∷◌, ◌++◌, length, Option, Some, None, refl, sym, ap, ◌∙◌, subst, arith, append_assoc, length-append, sum_by}
use Rattle.std.specs.Prelude.{IfSome, MatchOption}
use Rattle.std.specs.List.{All, concat}
use Rattle.std.specs.Io.KnownBytes.{Consumes, IsAtEnd}
use Rattle.std.proofs.lemmas.Bool.{false≢true}
use Rattle.std.proofs.lemmas.List.Sums.{sum_by-cons}
use Rattle.ss_base.specs.declared.name.Piece.{Piece}
use Rattle.ss_base.specs.declared.profile.Numbers.{Numbers}
use Rattle.outside.specs.Views.{SourceView}
use Rattle.chunk_name.specs.Pieces.{HasChunkLen}
use Rattle.segmenter.specs.declared.segment.Segment.{Segment}
use Rattle.segment_reader.specs.declared.reading.Found.{Found}
use Rattle.segment_reader.specs.SegmentsOf.{segments_of}
use Rattle.segment_reader.specs.Next.{IsNext}
use Rattle.segment_reader.specs.Reads.{IsRead}
use Rattle.segment_reader.specs.Found.{HasFound}
use Rattle.segment_reader.specs.WorkState.{WorkState}
use Rattle.segment_reader.specs.Answer.{TellsNext, GaveSegment, GaveNone}
use Rattle.segment_reader.proofs.WholeLaws.{segments_of-nil}

-- pieces of which each has a byte have one together
pieces-some : (ps : List Piece) (total : ℕ) → 1 ≤ length ps → All HasChunkLen ps → sum_by (λ p. p.len) ps ≡ total → 1 ≤ total
pieces-some [] total some all sum = absurd (omega arith)
pieces-some (p ∷ ps) total some all sum = let one = (all 0 p (omega arith)).0 in omega (arith, one, sum_by-cons (λ (q : Piece). q.len) p ps)

-- a segment has a byte
segment-some : (s : Segment) → 1 ≤ length s.bytes.items
segment-some s = pieces-some s.pieces.items (length s.bytes.items) (omega (arith, s.some, s.pieces.ok.0)) s.lengths s.parts.sum

no_item : {A : Type 0} (x : A) (xs : List A) → x ∷ xs ≡ [] → ⊥
no_item x xs is = cc

front_none : (x y : List ℕ) → x ++ y ≡ [] → x ≡ []
front_none [] y none = refl
front_none (b ∷ x) y none = absurd (no_item b (x ++ y) none)

back_none : (x y : List ℕ) → x ++ y ≡ [] → y ≡ []
back_none [] y none = none
back_none (b ∷ x) y none = absurd (no_item b (x ++ y) none)

-- what a source tells is the rest of the stream
tells_next : (n : Numbers) (ended : Bool) (chunks : List (List ℕ)) (before got after : List ℕ) (left left' : Option (List ℕ))
    → ((more : List ℕ) → (ended ≡ true → more ≡ []) → segments_of n ((before ++ got) ++ more) ≡ chunks ∷ segments_of n (after ++ more))
    → Consumes left left' got → (ended ≡ true → IsAtEnd left') → TellsNext n chunks before after left left'
tells_next n ended chunks before got after None left' first gives end = tt
tells_next n ended chunks before got after (Some all) None first gives end = tt
tells_next n ended chunks before got after (Some all) (Some rest) first gives end =
    ap (λ (l : List ℕ). segments_of n (before ++ l)) gives ∙ ap (segments_of n) (sym (append_assoc before got rest)) ∙ first rest end

-- a source that gave nothing and ended tells nothing
tells_none : (n : Numbers) (before : List ℕ) (left left' : Option (List ℕ)) → before ≡ [] → Consumes left left' [] → IsAtEnd left' → IfSome left (λ bytes. segments_of n (before ++ bytes) ≡ [])
tells_none n before None left' none gives end = tt
tells_none n before (Some all) None none gives end = elim gives [ ]
tells_none n before (Some all) (Some rest) none gives end =
    ap (λ (l : List ℕ). segments_of n (l ++ all)) none ∙ ap (segments_of n) (gives ∙ end) ∙ segments_of-nil n

-- what a work is after an answer
abbrev pub answered : WorkState → Found → List ℕ → WorkState
answered work found after = record work { taken = work.taken + found.read; pending = length after; bytes = after; ended = found.ended }

-- how many bytes a segment has, if there is one
abbrev pub HasLen : Option Segment → ℕ → Type 0
HasLen None len = len ≡ 0
HasLen (Some s) len = len ≡ length s.bytes.items

pending_of : (segment : Option Segment) (ended : Bool) (read len pending : ℕ) (before got after : List ℕ) (n : Numbers) → HasLen segment len → read ≡ length got → pending ≡ length before
    → MatchOption segment ((ended ≡ true) × (before ++ got ≡ [])) (λ s. IsNext n ended s (before ++ got) after) → (ended ≡ true → after ≡ []) → pending + read - len ≡ length after
pending_of None ended read len pending before got after n is more count none end =
    omega (arith, length-append before got, ap length none.1, ap length (end none.0))
pending_of (Some s) ended read len pending before got after n is more count next end =
    let parts = ap length next.bytes ∙ length-append (concat next.chunks) after in
    omega (arith, length-append before got, parts, ap length next.has.bytes)

len_of : (segment : Option Segment) (ended : Bool) (read len pending : ℕ) (before got after : List ℕ) (n : Numbers) → HasLen segment len → read ≡ length got → pending ≡ length before
    → MatchOption segment ((ended ≡ true) × (before ++ got ≡ [])) (λ s. IsNext n ended s (before ++ got) after) → len ≤ pending + read
len_of None ended read len pending before got after n is more count none = omega arith
len_of (Some s) ended read len pending before got after n is more count next =
    let parts = ap length next.bytes ∙ length-append (concat next.chunks) after in
    omega (arith, length-append before got, parts, ap length next.has.bytes)

module _ (work : WorkState) (after : List ℕ) (source source' : SourceView) (within : work.taken ≤ work.limit) where
  pub gave-segment : (found : Found) (segment : Segment) → found.segment ≡ Some segment → HasFound work.numbers (work.limit - work.taken) work.bytes after source source' found → work.ended ≡ false → GaveSegment work (answered work found after) source source' segment
  gave-segment found segment is has going =
      let next : IsNext work.numbers found.ended segment (work.bytes ++ has.got) after =
      subst (λ (o : Option Segment). MatchOption o ((found.ended ≡ true) × (work.bytes ++ has.got ≡ [])) (λ s. IsNext work.numbers found.ended s (work.bytes ++ has.got) after)) is has.next in
      let some = segment-some segment in
      let total = length-append work.bytes has.got in
      let parts = ap length next.bytes ∙ length-append (concat next.chunks) after in
      let of = ap length next.has.bytes in
      let taken : work.taken + found.read ≡ work.taken + length has.got = ap (λ k. work.taken + k) has.count in
      record {
        going = going;
        got = has.got;
        reads = has.reads;
        next = next;
        told = tells_next work.numbers found.ended next.chunks work.bytes has.got after source.left source'.left next.first has.reads.gives (λ ended. (has.end ended).0.none_left);
        end = has.end;
        within = omega (arith, has.count, has.within);
        falls = omega (arith, some, total, parts, of, has.count, has.within);
        after = λ i. record work { taken = taken i; pending = length after; bytes = after; ended = found.ended };
      }

  pub gave-none : (found : Found) → found.segment ≡ None → HasFound work.numbers (work.limit - work.taken) work.bytes after source source' found → work.ended ≡ false → work.pending ≡ length work.bytes
      → GaveNone work (answered work found after) source source'
  gave-none found is has going count =
      let none : (found.ended ≡ true) × (work.bytes ++ has.got ≡ []) =
      subst (λ (o : Option Segment). MatchOption o ((found.ended ≡ true) × (work.bytes ++ has.got ≡ [])) (λ s. IsNext work.numbers found.ended s (work.bytes ++ has.got) after)) is has.next in
      let before = front_none work.bytes has.got none.1 in
      let got = back_none work.bytes has.got none.1 in
      let reads = subst (IsRead work.numbers work.bytes source source') got has.reads in
      let end = has.end none.0 in
      let no_more : found.read ≡ 0 = has.count ∙ ap length got in
      let taken : work.taken + found.read ≡ work.taken = omega (arith, no_more) in
      let pending : length after ≡ work.pending = ap length end.1 ∙ sym (count ∙ ap length before) in
      let bytes : after ≡ work.bytes = end.1 ∙ sym before in
      record {
        none = before;
        reads = reads;
        before = λ ended. absurd (false≢true (sym going ∙ ended));
        now = λ _. (end.0, tells_none work.numbers work.bytes source.left source'.left before reads.gives end.0.none_left);
        after = λ i. record work { taken = taken i; pending = pending i; bytes = bytes i; ended = none.0 i };
      }

  -- the number of bytes that pend
  pub pending-after : (found : Found) (len : ℕ) → HasLen found.segment len → HasFound work.numbers (work.limit - work.taken) work.bytes after source source' found → work.pending ≡ length work.bytes → work.pending + found.read - len ≡ length after
  pending-after found len is has count = pending_of found.segment found.ended found.read len work.pending work.bytes has.got after work.numbers is has.count count has.next (λ ended. (has.end ended).1)

  -- the segment is among the bytes that pended or were read
  pub len-within : (found : Found) (len : ℕ) → HasLen found.segment len → HasFound work.numbers (work.limit - work.taken) work.bytes after source source' found → work.pending ≡ length work.bytes → len ≤ work.pending + found.read
  len-within found len is has count = len_of found.segment found.ended found.read len work.pending work.bytes has.got after work.numbers is has.count count has.next
