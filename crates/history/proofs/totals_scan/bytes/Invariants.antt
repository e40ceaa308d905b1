use Rattle.std.proofs.Common.{◌≡◌, ◌≤◌, ◌*◌, ◌^◌, take, reverse}
use Rattle.std.specs.List.{sum_by}
use Rattle.journal_entry.specs.declared.entry.Entry.{Entry}
use Rattle.history.specs.TotalsOf.{bytes_retained}
use Rattle.history.proofs.totals_scan.bytes.Given as goal

abbrev pub invariant-loop-entry : goal.invariant-loop-entry
invariant-loop-entry l = (l.sum ≡ sum_by (λ (entry : Entry). bytes_retained (reverse l.entries) entry.point) (take l.entry-index l.entries)) × (l.sum ≤ l.entry-index * 2 ^ 32)
