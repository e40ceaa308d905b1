use Rattle.std.proofs.Common.{◌≡◌, ◌+◌, ◌≤◌, true, false, [], ◌++◌, List, ℕ, length, sym, ap, ◌∙◌, subst, arith, vec_len}
use Rattle.std.specs.Prelude.{MatchOption}
use Rattle.std.proofs.lemmas.Bool.{eqb-true}
use Rattle.std.proofs.lemmas.Result.{err_from_is_err_and}
use Rattle.ss_base.specs.declared.profile.Numbers.{Numbers}
use Rattle.outside.specs.Views.{source_view, Gives}
use Rattle.segment_reader.specs.Grouping.{numbers_in, bytes_in}
use Rattle.segment_reader.specs.Next.{IsNext}
use Rattle.segment_reader.proofs.NextLaws.{nothing}
use Rattle.segment_reader.proofs.ReadLaws.{IsReadSoFar, so_far-more, ends-failed, ends-end, ends-piece, ends-above, ends-unread, ends-trouble, found-end, found-whole, none_whole, few_more}
use Rattle.segment_reader.proofs.reading.read_segment.Goals as goal

pub returns-in_err-segment-clause-ends : goal.returns-in_err-segment-clause-ends
returns-in_err-segment-clause-ends g c =
    let seen = source_view g.S.Source in
    let n = numbers_in c.args.stream.now in
    let before = bytes_in c.args.stream.now in
    let old = c.loop-segment in
    let kept = old.invariant in
    let p = err_from_is_err_and c.from_residual.result c.from_residual.ensures.1 in
    rw (p.1, p.2) (ends-unread n before (bytes_in old.stream) (seen c.args.source.now) (seen old.source) old.read kept.so_far c.args.room kept.within)

pub returns-in-Some-clause-found : goal.returns-in-Some-clause-found
returns-in-Some-clause-found g c =
    let seen = source_view g.S.Source in
    let n = numbers_in c.args.stream.now in
    let before = bytes_in c.args.stream.now in
    let old = c.loop-segment in
    let kept = old.invariant in
    let some = rw c.in-Some.is at c.in_ok-segment.ensures.some in
    let next = subst (λ (m : Numbers). IsNext m false c.in-Some.segment (bytes_in old.stream) (bytes_in c.next.new.self)) kept.numbers some in
    found-whole n before (bytes_in old.stream) (seen c.args.source.now) (seen old.source) old.read kept.so_far c.args.room (bytes_in c.next.new.self) c.in-Some.segment kept.within next

pub returns-in_err-piece-clause-ends : goal.returns-in_err-piece-clause-ends
returns-in_err-piece-clause-ends g c =
    let seen = source_view g.S.Source in
    let n = numbers_in c.args.stream.now in
    let before = bytes_in c.args.stream.now in
    let old = c.loop-segment in
    let kept = old.invariant in
    let h = c.next.new.self in
    let none = rw c.in_default.is at c.in_ok-segment.ensures in
    let same = c.next.ensures.numbers ∙ kept.numbers in
    let so = subst (λ (bytes : List ℕ). IsReadSoFar n before bytes (seen c.args.source.now) (seen old.source) old.read) (sym none.same) kept.so_far in
    let open_end = none_whole h n same none.none in
    let p = err_from_is_err_and c.from_residual-in_err-piece.result c.from_residual-in_err-piece.ensures.1 in
    rw (p.1, p.2) (ends-trouble c.in_err-piece.field-0.0 n c.args.room before (seen c.args.source.now) (seen c.read.new.self)
    (ends-failed n before (bytes_in h) (seen c.args.source.now) (seen old.source) (seen c.read.new.self) old.read so open_end c.args.room c.in_err-piece.ensures.bytes kept.within))

pub returns-in_err-segment-2-clause-ends : goal.returns-in_err-segment-2-clause-ends
returns-in_err-segment-2-clause-ends g c =
    let seen = source_view g.S.Source in
    let n = numbers_in c.args.stream.now in
    let before = bytes_in c.args.stream.now in
    let old = c.loop-segment in
    let kept = old.invariant in
    let h = c.next.new.self in
    let none = rw c.in_default.is at c.in_ok-segment.ensures in
    let same = c.next.ensures.numbers ∙ kept.numbers in
    let so = subst (λ (bytes : List ℕ). IsReadSoFar n before bytes (seen c.args.source.now) (seen old.source) old.read) (sym none.same) kept.so_far in
    let open_end = none_whole h n same none.none in
    let empty : c.in_ok-piece.piece.items ≡ [] = nothing c.in_ok-piece.piece.items (λ some. omega (arith, c.in_ok-piece.piece.ok.0, eqb-true (vec_len c.in_ok-piece.piece) 0 (sym c.if-is_empty.ensures))) in
    let gives = subst (Gives (seen old.source) (seen c.read.new.self)) empty c.in_ok-piece.ensures.bytes in
    let p = err_from_is_err_and c.from_residual-in_err-segment-2.result c.from_residual-in_err-segment-2.ensures.1 in
    rw (p.1, p.2) (ends-end n before (bytes_in h) (seen c.args.source.now) (seen old.source) (seen c.read.new.self) old.read so open_end c.args.room gives kept.within)

pub returns-then-is_empty-clause-found : goal.returns-then-is_empty-clause-found
returns-then-is_empty-clause-found g c =
    let seen = source_view g.S.Source in
    let n = numbers_in c.args.stream.now in
    let before = bytes_in c.args.stream.now in
    let old = c.loop-segment in
    let kept = old.invariant in
    let h = c.next.new.self in
    let none = rw c.in_default.is at c.in_ok-segment.ensures in
    let same = c.next.ensures.numbers ∙ kept.numbers in
    let so = subst (λ (bytes : List ℕ). IsReadSoFar n before bytes (seen c.args.source.now) (seen old.source) old.read) (sym none.same) kept.so_far in
    let open_end = none_whole h n same none.none in
    let empty : c.in_ok-piece.piece.items ≡ [] = nothing c.in_ok-piece.piece.items (λ some. omega (arith, c.in_ok-piece.piece.ok.0, eqb-true (vec_len c.in_ok-piece.piece) 0 (sym c.if-is_empty.ensures))) in
    let gives = subst (Gives (seen old.source) (seen c.read.new.self)) empty c.in_ok-piece.ensures.bytes in
    let end = c.in_ok-piece.ensures.end empty in
    let found = c.in_ok-segment-2.segment in
    let last = subst (λ (m : Numbers). MatchOption found (bytes_in h ≡ []) (λ s. IsNext m true s (bytes_in h) [])) same c.in_ok-segment-2.ensures.last in
    found-end n before (bytes_in h) (seen c.args.source.now) (seen old.source) (seen c.read.new.self) old.read so open_end c.args.room (bytes_in c.rest.new.self) found gives
    (record { answered = end.0; none_left = end.1 }) kept.within c.in_ok-segment-2.ensures.bytes last

pub returns-then-len-room-clause-ends : goal.returns-then-len-room-clause-ends
returns-then-len-room-clause-ends g c =
    let seen = source_view g.S.Source in
    let n = numbers_in c.args.stream.now in
    let before = bytes_in c.args.stream.now in
    let old = c.loop-segment in
    let kept = old.invariant in
    let h = c.next.new.self in
    let none = rw c.in_default.is at c.in_ok-segment.ensures in
    let same = c.next.ensures.numbers ∙ kept.numbers in
    let so = subst (λ (bytes : List ℕ). IsReadSoFar n before bytes (seen c.args.source.now) (seen old.source) old.read) (sym none.same) kept.so_far in
    let open_end = none_whole h n same none.none in
    let piece = c.in_ok-piece.piece.items in
    let gives = c.in_ok-piece.ensures.bytes in
    let most : length piece ≤ 65536 = omega (arith, c.in_ok-piece.ensures.most, c.in_ok-piece.piece.ok.0) in
    let over = c.if-len-room.true in
    ends-above n before (bytes_in h) (seen c.args.source.now) (seen old.source) (seen c.read.new.self) old.read so open_end c.args.room piece gives most kept.within (omega (arith, over, c.in_ok-piece.piece.ok.0, kept.within))

pub returns-in_err-push-clause-ends : goal.returns-in_err-push-clause-ends
returns-in_err-push-clause-ends g c =
    let seen = source_view g.S.Source in
    let n = numbers_in c.args.stream.now in
    let before = bytes_in c.args.stream.now in
    let old = c.loop-segment in
    let kept = old.invariant in
    let h = c.next.new.self in
    let none = rw c.in_default.is at c.in_ok-segment.ensures in
    let same = c.next.ensures.numbers ∙ kept.numbers in
    let so = subst (λ (bytes : List ℕ). IsReadSoFar n before bytes (seen c.args.source.now) (seen old.source) old.read) (sym none.same) kept.so_far in
    let open_end = none_whole h n same none.none in
    let piece = c.in_ok-piece.piece.items in
    let gives = c.in_ok-piece.ensures.bytes in
    let most : length piece ≤ 65536 = omega (arith, c.in_ok-piece.ensures.most, c.in_ok-piece.piece.ok.0) in
    let room = c.if-len-room.false in
    let p = err_from_is_err_and c.from_residual-in_err-push.result c.from_residual-in_err-push.ensures.1 in
    rw (p.1, p.2) (ends-piece n before (bytes_in h) (seen c.args.source.now) (seen old.source) (seen c.read.new.self) old.read so open_end c.args.room piece gives most (omega (arith, room, c.in_ok-piece.piece.ok.0, kept.within)))

pub loop-segment-preserved : goal.loop-segment-preserved
loop-segment-preserved g c =
    let seen = source_view g.S.Source in
    let n = numbers_in c.args.stream.now in
    let before = bytes_in c.args.stream.now in
    let old = c.loop-segment in
    let kept = old.invariant in
    let h = c.next.new.self in
    let none = rw c.in_default.is at c.in_ok-segment.ensures in
    let same = c.next.ensures.numbers ∙ kept.numbers in
    let so = subst (λ (bytes : List ℕ). IsReadSoFar n before bytes (seen c.args.source.now) (seen old.source) old.read) (sym none.same) kept.so_far in
    let open_end = none_whole h n same none.none in
    let piece = c.in_ok-piece.piece.items in
    let gives = c.in_ok-piece.ensures.bytes in
    let most : length piece ≤ 65536 = omega (arith, c.in_ok-piece.ensures.most, c.in_ok-piece.piece.ok.0) in
    let room = c.if-len-room.false in
    let is = c.in_ok-push.ensures.bytes ∙ ap (λ (l : List ℕ). bytes_in h ++ l) c.deref.ensures.value in
    let count : old.read + c.len-in-loop-segment.result ≡ old.read + length piece = omega (arith, c.len-in-loop-segment.ensures, c.in_ok-piece.piece.ok.0) in
    record {
      in_step = c.in_ok-push.ensures.in_step;
      numbers = c.in_ok-push.ensures.numbers ∙ same;
      few = few_more h n piece (bytes_in c.push.new.self) same none.none most is;
      so_far = so_far-more n before (bytes_in h) (seen c.args.source.now) (seen old.source) (seen c.read.new.self) old.read so open_end piece (bytes_in c.push.new.self) (old.read + c.len-in-loop-segment.result) gives most is count;
      within = omega (arith, room, count, c.in_ok-piece.piece.ok.0, kept.within);
      behind = c.read.ensures.behind ∙ kept.behind;
      count = c.in_ok-piece.ensures.cause.quiet ∙ kept.count;
    }
