use Rattle.std.proofs.Common.{◌≡◌, ◌≤◌, ◌*◌, ◌^◌, take}
use Rattle.std.specs.List.{sum_by}
use Rattle.journal_entry.specs.declared.entry.Entry.{Entry}
use Rattle.history.specs.TotalsOf.{containers_closed}
use Rattle.history.proofs.totals_scan.containers.Given as goal

abbrev pub invariant-loop-entry : goal.invariant-loop-entry
invariant-loop-entry l = (l.sum ≡ sum_by (λ (entry : Entry). containers_closed entry.point) (take l.entry-index l.entries)) × (l.sum ≤ l.entry-index * 2 ^ 32)
