use Rattle.std.proofs.Common.{◌≡◌, ◌≤◌, take, reverse}
use Rattle.std.specs.List.{count_by}
use Rattle.journal_entry.specs.declared.entry.Entry.{Entry}
use Rattle.history.specs.Legal.{begins_unfinished}
use Rattle.history.proofs.limits_scan.unfinished_sessions.Given as goal

abbrev pub invariant-loop-entry : goal.invariant-loop-entry
invariant-loop-entry l = (l.count ≤ l.entry-index) × (l.count ≡ count_by (λ (entry : Entry). begins_unfinished (reverse l.entries) entry.point) (take l.entry-index l.entries))
