use Rattle.std.proofs.Common.{◌≡◌, ◌+◌, ◌≤◌, ◌++◌, length}
use Rattle.journal_file.specs.declared.limits.TheConstants.{MAX_ENTRIES}
use Rattle.store_run.specs.Advances.{Advances}
use Rattle.store_run.specs.EntryLines.{entry_lines}
use Rattle.store_run.proofs.listing.print_entries.Given as goal

abbrev pub invariant-loop-entry : goal.invariant-loop-entry
invariant-loop-entry g l =
    let sink = g.O.Sink in
    record {
      few : l.number + length l.rest ≤ MAX_ENTRIES;
      way : Advances (sink.written l.initial.out) (sink.written l.out) (λ (more : Unit {0}). l.initial.waiting.items ++ entry_lines l.initial.first l.initial.entries) (λ more. l.waiting.items ++ entry_lines l.number l.rest);
      count : sink.faults l.out ≡ sink.faults l.initial.out;
    }

abbrev pub decreases-loop-entry : goal.decreases-loop-entry
decreases-loop-entry g l = length l.rest
