-- What a shelf's trouble makes of a call on the journal, and what the shelf's count of faults tells of it (this
-- project's own).
use Rattle.std.specs.Prelude.{◌≡◌, ℕ, Result, Ok, Err}
use Rattle.outside.specs.Faults.{Rose}
use Rattle.outside.specs.declared.trouble.Trouble.{Trouble}
use Rattle.outside.specs.declared.trouble.Trouble.TheVariants.{Fault, Memory}
use Rattle.journal_file.specs.declared.fault.CreateFault.{CreateFault}
use Rattle.journal_file.specs.declared.fault.CreateFault.TheVariants as create
use Rattle.journal_file.specs.declared.fault.JournalFault.{JournalFault}
use Rattle.journal_file.specs.declared.fault.JournalFault.TheVariants as journal
use Rattle.journal_file.specs.declared.fault.AppendFault.{AppendFault}
use Rattle.journal_file.specs.declared.fault.AppendFault.TheVariants as added

abbrev pub create_fault : Trouble → CreateFault
create_fault Fault = create.Shelf
create_fault Memory = create.Memory

abbrev pub journal_fault : Trouble → JournalFault
journal_fault Fault = journal.Shelf
journal_fault Memory = journal.Memory

abbrev pub append_fault : Trouble → AppendFault
append_fault Fault = added.Shelf
append_fault Memory = added.Memory

-- The count rose where the shelf failed in the call, and is as before elsewhere.
abbrev pub CreateCount : {T : Type 0} → Result T CreateFault → ℕ → ℕ → Type 0
CreateCount (Err create.Shelf) before after = Rose before after
CreateCount (Err create.AlreadyStore) before after = after ≡ before
CreateCount (Err create.Memory) before after = after ≡ before
CreateCount (Ok x) before after = after ≡ before

abbrev pub ReadCount : {T : Type 0} → Result T JournalFault → ℕ → ℕ → Type 0
ReadCount (Err journal.Shelf) before after = Rose before after
ReadCount (Err journal.NotStore) before after = after ≡ before
ReadCount (Err (journal.BadEntry place)) before after = after ≡ before
ReadCount (Err journal.Memory) before after = after ≡ before
ReadCount (Ok x) before after = after ≡ before

abbrev pub AppendCount : {T : Type 0} → Result T AppendFault → ℕ → ℕ → Type 0
AppendCount (Err added.Shelf) before after = Rose before after
AppendCount (Err added.Memory) before after = after ≡ before
AppendCount (Ok x) before after = after ≡ before
