use Rattle.std.proofs.Common.{◌≡◌, take, reverse}
use Rattle.std.specs.List.{count_by}
use Rattle.journal_entry.specs.declared.entry.Entry.{Entry}
use Rattle.history.specs.TotalsOf.{stream_began}
use Rattle.history.proofs.totals_scan.streams.Given as goal

abbrev pub invariant-loop-entry : goal.invariant-loop-entry
invariant-loop-entry l = l.count ≡ count_by (λ (entry : Entry). stream_began (reverse l.entries) entry.point) (take l.entry-index l.entries)
