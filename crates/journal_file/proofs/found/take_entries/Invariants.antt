use Rattle.std.proofs.Common.{◌≡◌, ◌++◌, length}
use Rattle.journal_entry.specs.EntryText.{entries_text}
use Rattle.journal_file.specs.Scan.{AreFound}
use Rattle.journal_file.proofs.found.take_entries.Given as goal

-- the entries found and the rest are all there was
abbrev pub invariant-loop-entry : goal.invariant-loop-entry
invariant-loop-entry l =
    (entries_text l.fn.found.entries.items ++ l.bytes ≡ entries_text l.found.entries.items ++ l.rest)
    × AreFound l.found.entries.items l.found.weight l.found.place

abbrev pub decreases-loop-entry : goal.decreases-loop-entry
decreases-loop-entry l = length l.rest
