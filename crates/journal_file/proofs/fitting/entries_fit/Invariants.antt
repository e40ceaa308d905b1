use Rattle.std.proofs.Common.{take}
use Rattle.std.specs.List.{AllByRecursion}
use Rattle.journal_entry.specs.Bounds.{IsEntry}
use Rattle.journal_file.proofs.fitting.entries_fit.Given as goal

abbrev pub invariant-loop-entry : goal.invariant-loop-entry
invariant-loop-entry l = AllByRecursion IsEntry (take l.entry-index l.entries)
