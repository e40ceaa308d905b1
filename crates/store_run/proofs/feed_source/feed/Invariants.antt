use Rattle.std.proofs.Common.{◌≡◌, ◌-◌, ◌≤◌, length}
use Rattle.outside.specs.Views.{source_view, sink_view}
use Rattle.store_run.specs.Feed.{IsUnderWay}
use Rattle.store_run.specs.LinePrinter.{still, Fits, IsUpToDate}
use Rattle.store_run.specs.Lines.{IsLines}
use Rattle.store_run.specs.SoFar.{Stage}
use Rattle.store_run.proofs.feed_source.feed.Given as goal

abbrev pub invariant-loop-piece : goal.invariant-loop-piece
invariant-loop-piece g l =
    let maker = g.L.ChunkLines in
    record {
      fits : Fits maker.most l.printer;
      up_to_date : IsUpToDate maker.text l.printer;
      whole : IsLines l.printer.waiting.items;
      fed : (stage : Stage) → (way : IsUnderWay (source_view g.S.Source l.initial.source) (source_view g.S.Source l.source) (sink_view g.O.Sink l.initial.out) (sink_view g.O.Sink l.out)
          (still maker.text stage l.initial.printer) (still maker.text stage l.printer)) × (length way.bytes ≡ l.taken);
      within : l.taken ≤ l.limit;
      sources : g.S.Source.faults l.source ≡ g.S.Source.faults l.initial.source;
      sinks : g.O.Sink.faults l.out ≡ g.O.Sink.faults l.initial.out;
    }

abbrev pub decreases-loop-piece : goal.decreases-loop-piece
decreases-loop-piece g l = l.limit - l.taken
