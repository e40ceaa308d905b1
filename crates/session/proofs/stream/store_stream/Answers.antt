use Rattle.std.proofs.Common.{refl, sym, ap, ◌∙◌, subst}
use Rattle.outside.specs.Views.{source_view}
use Rattle.depot.specs.Seen.{seen}
use Rattle.ss_base.specs.declared.profile.Profile.{Profile}
use Rattle.segment_reader.specs.WorkState.{unused}
use Rattle.session.specs.Ready.{no_extent, reached, IsReady}
use Rattle.session.specs.Runs.{numbers_for, HasStoredStream, HasStoppedStream}
use Rattle.session.specs.Runs.HasFailedStream.{stopped}
use Rattle.session.specs.Split.{most_bytes}
use Rattle.session.specs.Stores.{Reached}
use Rattle.session.specs.declared.storing.Extent.{Extent}
use Rattle.session.proofs.CallLaws.{begun_ready, can_abort, can_finish}
use Rattle.session.proofs.stream.store_stream.Goals as goal

pub abort-requires : goal.abort-requires
abort-requires g c =
    let caller = g.C.SessionCalls.of_open c.args.calls.now c.args.caller in
    can_abort caller (no_extent caller.session) (begun_ready caller c.requires.begun)

pub store_segments-requires-clause-ready : goal.store_segments-requires-clause-ready
store_segments-requires-clause-ready g c =
    let caller = g.C.SessionCalls.of_open c.args.calls.now c.args.caller in
    subst (λ (extent : Extent). IsReady caller extent) (sym (c.new-extent.ensures ∙ ap no_extent c.session.ensures)) (begun_ready caller c.requires.begun)

pub store_segments-requires-clause-work : goal.store_segments-requires-clause-work
store_segments-requires-clause-work g c = c.in-Ok.ensures ∙ ap (λ (p : Profile). unused p most_bytes) c.profile.ensures

pub finish-requires : goal.finish-requires
finish-requires g c = can_finish (g.C.SessionCalls.of_open c.store_segments.new.calls c.in-Ok-store_segments.caller) c.store_segments.new.extent c.in-Ok-store_segments.ensures.ready

pub returns-in-Ok-store_segments-clause-answer : goal.returns-in-Ok-store_segments-clause-answer
returns-in-Ok-store_segments-clause-answer g c =
    let calls = g.C.SessionCalls in
    let caller = calls.of_open c.args.calls.now c.args.caller in
    let shelf = seen g.K.Shelf c.args.depot.now in
    let last = reached (calls.of_open c.store_segments.new.calls c.in-Ok-store_segments.caller) (seen g.K.Shelf c.store_segments.new.depot) c.store_segments.new.extent c.store_segments.new.cache.entries in
    record {
      last = last;
      stored =
          subst (λ (start : Reached). HasStoredStream calls.others calls.standings calls.champions (numbers_for caller) start (source_view g.S.Source c.args.source.now) (source_view g.S.Source c.store_segments.new.source) last)
          (ap (λ (extent : Extent). reached caller shelf extent c.args.cache.now.entries) (c.new-extent.ensures ∙ ap no_extent c.session.ensures)) c.in-Ok-store_segments.ensures.answer;
      shelf_is = refl;
      cache_is = refl;
      finished = c.finish.ensures;
    }

pub returns-clause-answer : goal.returns-clause-answer
returns-clause-answer g c =
    let calls = g.C.SessionCalls in
    let caller = calls.of_open c.args.calls.now c.args.caller in
    let shelf = seen g.K.Shelf c.args.depot.now in
    let back = c.in-Err.back in
    stopped
    (subst (λ (start : Reached). HasStoppedStream calls.others calls.standings calls.champions (numbers_for caller) start (source_view g.S.Source c.args.source.now) (source_view g.S.Source c.store_segments.new.source) (calls.of_idle c.store_segments.new.calls back.0) (seen g.K.Shelf c.store_segments.new.depot) c.store_segments.new.cache.entries back.1)
    (ap (λ (extent : Extent). reached caller shelf extent c.args.cache.now.entries) (c.new-extent.ensures ∙ ap no_extent c.session.ensures)) c.in-Err.ensures.answer)
