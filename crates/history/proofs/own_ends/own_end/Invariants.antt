use Rattle.std.proofs.Common.{◌≡◌, take}
use Rattle.journal_entry.specs.declared.entry.Entry.{Entry}
use Rattle.history.specs.OwnEnd.{end_used, greatest_by}
use Rattle.history.proofs.own_ends.own_end.Given as goal

abbrev pub invariant-loop-entry : goal.invariant-loop-entry
invariant-loop-entry l = l.end ≡ greatest_by (λ (entry : Entry). end_used l.session entry.point) (take l.entry-index l.entries)
