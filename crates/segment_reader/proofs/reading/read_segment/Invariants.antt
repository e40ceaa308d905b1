use Rattle.std.proofs.Common.{◌≡◌, ◌-◌, ◌<◌, ◌≤◌, length}
use Rattle.outside.specs.Views.{source_view}
use Rattle.segment_reader.specs.Whole.{above_pending}
use Rattle.segment_reader.specs.Grouping.{numbers_in, bytes_in, IsInStep}
use Rattle.segment_reader.proofs.ReadLaws.{IsReadSoFar}
use Rattle.segment_reader.proofs.reading.read_segment.Given as goal

abbrev pub invariant-loop-segment : goal.invariant-loop-segment
invariant-loop-segment g l =
    let seen = source_view g.S.Source in
    record {
      in_step : IsInStep l.stream;
      numbers : numbers_in l.stream ≡ numbers_in l.initial.stream;
      few : length (bytes_in l.stream) < above_pending (numbers_in l.initial.stream);
      so_far : IsReadSoFar (numbers_in l.initial.stream) (bytes_in l.initial.stream) (bytes_in l.stream) (seen l.initial.source) (seen l.source) l.read;
      within : l.read ≤ l.room;
      behind : g.S.Source.behind l.source ≡ g.S.Source.behind l.initial.source;
      count : g.S.Source.faults l.source ≡ g.S.Source.faults l.initial.source;
    }

abbrev pub decreases-loop-segment : goal.decreases-loop-segment
decreases-loop-segment g l = l.room - l.read
