use Rattle.journal_entry.proofs.Entries.{same_entry, same_entries}
use Rattle.journal_entry.proofs.laws.one_reading.Goals as goal

pub returns-clause-entry : goal.returns-clause-entry
returns-clause-entry c = same_entry

pub returns-clause-entries : goal.returns-clause-entries
returns-clause-entries c = same_entries
