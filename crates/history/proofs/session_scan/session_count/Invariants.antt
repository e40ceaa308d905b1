use Rattle.std.proofs.Common.{◌≡◌, ◌≤◌, take}
use Rattle.std.specs.List.{count_by}
use Rattle.journal_entry.specs.declared.entry.Entry.{Entry}
use Rattle.history.specs.Sessions.{begins_some}
use Rattle.history.proofs.session_scan.session_count.Given as goal

abbrev pub invariant-loop-entry : goal.invariant-loop-entry
invariant-loop-entry l = (l.count ≤ l.entry-index) × (l.count ≡ count_by (λ (entry : Entry). begins_some entry.point) (take l.entry-index l.entries))
