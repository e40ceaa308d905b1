use Rattle.std.proofs.Common.{◌≡◌, take}
use Rattle.journal_entry.specs.EntryText.{entries_text}
use Rattle.journal_file.proofs.appending.text_of.Given as goal

abbrev pub invariant-loop-entry : goal.invariant-loop-entry
invariant-loop-entry l = l.text.items ≡ entries_text (take l.entry-index l.entries)
