use Rattle.std.proofs.Common.{◌≡◌, ◌+◌, take}
use Rattle.std.specs.List.{sum_by}
use Rattle.journal_entry.specs.declared.entry.Entry.{Entry}
use Rattle.journal_entry.specs.Weight.{point_weight}
use Rattle.history.proofs.limits_scan.is_weight_within.Given as goal

abbrev pub invariant-loop-entry : goal.invariant-loop-entry
invariant-loop-entry l = l.left + sum_by (λ (entry : Entry). point_weight entry.point) (take l.entry-index l.entries) ≡ l.limit
