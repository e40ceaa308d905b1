use Rattle.std.proofs.Common.{◌≡◌, false}
use Rattle.outside.specs.Views.{source_view}
use Rattle.depot.specs.Seen.{shelf_of, seen}
use Rattle.segment_reader.specs.Answer.{may_come}
use Rattle.session.specs.Ready.{reached, IsReady}
use Rattle.session.specs.Runs.{numbers_for}
use Rattle.session.proofs.StreamLaws.{IsUnderWay}
use Rattle.session.proofs.stream.store_segments.Given as goal

abbrev pub invariant-loop-segment : goal.invariant-loop-segment
invariant-loop-segment g l =
    let calls = g.C.SessionCalls in
    let start = reached (calls.of_open l.initial.calls l.initial.caller) (seen g.K.Shelf l.initial.depot) l.initial.extent l.initial.cache.entries in
    record {
      way : IsUnderWay calls.others calls.standings calls.champions (numbers_for start.caller) start (source_view g.S.Source l.initial.source) (source_view g.S.Source l.source) l.work
          (reached (calls.of_open l.calls l.caller) (seen g.K.Shelf l.depot) l.extent l.cache.entries);
      ready : IsReady (calls.of_open l.calls l.caller) l.extent;
      unspent : l.work.spent ≡ false;
      same_reference : (shelf_of l.depot).ghost_name ≡ (shelf_of l.initial.depot).ghost_name;
      behind : g.S.Source.behind l.source ≡ g.S.Source.behind l.initial.source;
      input_count : g.S.Source.faults l.source ≡ g.S.Source.faults l.initial.source;
      depot_count : g.K.Shelf.faults (shelf_of l.depot).now ≡ g.K.Shelf.faults (shelf_of l.initial.depot).now;
    }

abbrev pub decreases-loop-segment : goal.decreases-loop-segment
decreases-loop-segment g l = may_come l.work
