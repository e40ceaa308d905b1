use Rattle.std.proofs.Common.{refl, ap, ◌∙◌}
use Rattle.outside.specs.Views.{source_view}
use Rattle.depot.specs.Seen.{seen}
use Rattle.segment_reader.specs.Answer.{GaveSegment}
use Rattle.segment_reader.specs.WorkState.{WorkState}
use Rattle.session.specs.Ready.{reached}
use Rattle.session.specs.Runs.{numbers_for}
use Rattle.session.proofs.CallLaws.{can_abort}
use Rattle.session.proofs.StreamLaws.{way_start, way_more, way_end, way_unread, way_unstored}
use Rattle.session.proofs.stream.store_segments.Goals as goal

pub loop-segment-init : goal.loop-segment-init
loop-segment-init g c =
    let calls = g.C.SessionCalls in
    let start = reached (calls.of_open c.args.calls.now c.args.caller) (seen g.K.Shelf c.args.depot.now) c.args.extent.now c.args.cache.now.entries in
    record {
      way = way_start calls.others calls.standings calls.champions (numbers_for start.caller) start (source_view g.S.Source c.args.source.now) c.args.work.now c.requires.work;
      ready = c.requires.ready;
      unspent = ap (λ (w : WorkState). w.spent) c.requires.work;
      same_reference = refl;
      behind = refl;
      input_count = refl;
      depot_count = refl;
    }

pub returns-in-Ok-None-clause-answer : goal.returns-in-Ok-None-clause-answer
returns-in-Ok-None-clause-answer g c =
    let calls = g.C.SessionCalls in
    let old = c.loop-segment in
    let start = reached (calls.of_open c.args.calls.now c.args.caller) (seen g.K.Shelf c.args.depot.now) c.args.extent.now c.args.cache.now.entries in
    way_end calls.others calls.standings calls.champions (numbers_for start.caller) start (source_view g.S.Source c.args.source.now)
    (source_view g.S.Source old.source) (source_view g.S.Source c.next_segment.new.source) old.work c.next_segment.new.work
    (reached (calls.of_open old.calls old.caller) (seen g.K.Shelf old.depot) old.extent old.cache.entries) old.invariant.way (rw c.in-Ok-None.field-0-is at c.in-Ok-None.ensures.none)

pub abort-idle-requires : goal.abort-idle-requires
abort-idle-requires g c =
    let old = c.loop-segment in
    can_abort (g.C.SessionCalls.of_open old.calls old.caller) old.extent old.invariant.ready

pub returns-in-Err-clause-answer : goal.returns-in-Err-clause-answer
returns-in-Err-clause-answer g c =
    let calls = g.C.SessionCalls in
    let old = c.loop-segment in
    let start = reached (calls.of_open c.args.calls.now c.args.caller) (seen g.K.Shelf c.args.depot.now) c.args.extent.now c.args.cache.now.entries in
    way_unread calls.others calls.standings calls.champions (numbers_for start.caller) start (source_view g.S.Source c.args.source.now)
    (source_view g.S.Source old.source) (source_view g.S.Source c.next_segment.new.source) old.work c.next_segment.new.work
    (reached (calls.of_open old.calls old.caller) (seen g.K.Shelf old.depot) old.extent old.cache.entries) old.invariant.way
    c.in-Err.fault c.of_next.result (calls.of_idle c.abort-idle.new.self c.abort-idle.result) (seen g.K.Shelf old.depot) old.cache.entries c.of_next.ensures (refl, refl) c.in-Err.ensures.ends c.abort-idle.ensures

pub returns-in-Err-store_next-clause-answer : goal.returns-in-Err-store_next-clause-answer
returns-in-Err-store_next-clause-answer g c =
    let calls = g.C.SessionCalls in
    let old = c.loop-segment in
    let start = reached (calls.of_open c.args.calls.now c.args.caller) (seen g.K.Shelf c.args.depot.now) c.args.extent.now c.args.cache.now.entries in
    let gave : GaveSegment old.work c.next_segment.new.work (source_view g.S.Source old.source) (source_view g.S.Source c.next_segment.new.source) c.in-Ok-Some.segment = rw c.in-Ok-Some.field-0-is at c.in-Ok-Some.ensures.some in
    let back = c.in-Err-store_next.back in
    way_unstored calls.others calls.standings calls.champions (numbers_for start.caller) start (source_view g.S.Source c.args.source.now)
    (source_view g.S.Source old.source) (source_view g.S.Source c.next_segment.new.source) old.work c.next_segment.new.work
    (reached (calls.of_open old.calls old.caller) (seen g.K.Shelf old.depot) old.extent old.cache.entries) old.invariant.way
    back.1 (calls.of_idle c.store_next.new.calls back.0) (seen g.K.Shelf c.store_next.new.depot) c.store_next.new.cache.entries c.in-Ok-Some.segment gave
    (c.in-Err-store_next.ensures.answer gave.next.chunks gave.next.has)

pub loop-segment-preserved : goal.loop-segment-preserved
loop-segment-preserved g c =
    let calls = g.C.SessionCalls in
    let old = c.loop-segment in
    let kept = old.invariant in
    let start = reached (calls.of_open c.args.calls.now c.args.caller) (seen g.K.Shelf c.args.depot.now) c.args.extent.now c.args.cache.now.entries in
    let gave : GaveSegment old.work c.next_segment.new.work (source_view g.S.Source old.source) (source_view g.S.Source c.next_segment.new.source) c.in-Ok-Some.segment = rw c.in-Ok-Some.field-0-is at c.in-Ok-Some.ensures.some in
    let next = reached (calls.of_open c.store_next.new.calls c.in-Ok.next) (seen g.K.Shelf c.store_next.new.depot) c.store_next.new.extent c.store_next.new.cache.entries in
    record {
      way =
          way_more calls.others calls.standings calls.champions (numbers_for start.caller) start (source_view g.S.Source c.args.source.now)
          (source_view g.S.Source old.source) (source_view g.S.Source c.next_segment.new.source) old.work c.next_segment.new.work
          (reached (calls.of_open old.calls old.caller) (seen g.K.Shelf old.depot) old.extent old.cache.entries) kept.way next c.in-Ok-Some.segment gave
          (c.in-Ok.ensures.answer gave.next.chunks gave.next.has);
      ready = c.in-Ok.ensures.ready;
      unspent = ap (λ (w : WorkState). w.spent) gave.after ∙ kept.unspent;
      same_reference = c.in-Ok.ensures.same_reference ∙ kept.same_reference;
      behind = c.in-Ok-Some.ensures.behind ∙ kept.behind;
      input_count = c.in-Ok-Some.ensures.count ∙ kept.input_count;
      depot_count = c.in-Ok.ensures.count ∙ kept.depot_count;
    }
