use Rattle.std.proofs.Common.{◌≡◌, [], length}
use Rattle.store_run.specs.Advances.{AdvancesByLines}
use Rattle.store_run.specs.LinePrinter.{still, Fits}
use Rattle.store_run.specs.Lines.{IsLines}
use Rattle.store_run.specs.SoFar.{Stage, so_far}
use Rattle.store_run.proofs.line_printer.LinePrinter.print_ready.Given as goal

abbrev pub invariant-loop-chunk : goal.invariant-loop-chunk
invariant-loop-chunk g l =
    let maker = g.L.ChunkLines in
    let sink = g.O.Sink in
    record {
      fits : Fits maker.most l.self;
      none_whole : maker.text so_far l.self.lines [] ≡ [];
      whole : IsLines l.self.waiting.items;
      way : (stage : Stage) → AdvancesByLines (sink.written l.initial.out) (sink.written l.out) (still maker.text stage l.initial.self) (still maker.text stage l.self);
      count : sink.faults l.out ≡ sink.faults l.initial.out;
    }

abbrev pub decreases-loop-chunk : goal.decreases-loop-chunk
decreases-loop-chunk g l = length l.self.chunker.bytes
