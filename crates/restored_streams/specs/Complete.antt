-- What a restore answers where nothing keeps it off (this project's own).
use Rattle.std.specs.Prelude.{ℕ, Result, Ok, Err}
use Rattle.journal_entry.specs.declared.entry.Entry.{Entry}
use Rattle.outside.specs.Faults.{Rose}
use Rattle.depot.specs.declared.fault.RestoreFault.{RestoreFault}
use Rattle.depot.specs.declared.fault.RestoreFault.TheVariants.{Full, Memory}
use Rattle.store_core.specs.View.{StateView, IsFull}
use Rattle.restore.specs.Copies.{Shelves}

-- no count of faults rose
pub record NoneFailed (before after : Shelves) : Type 0 where
  pub files : Rose before.files.faults after.files.faults → ⊥
  pub depot : Rose before.depot.faults after.depot.faults → ⊥

-- it answered; or its look had no room in the journal; or memory was wanted
abbrev pub IsAnswered : StateView → StateView → Result ℕ RestoreFault → Type 0
IsAnswered before after (Ok count) = Unit {0}
IsAnswered before after (Err Full) = (entry : Entry) × IsFull before after entry
IsAnswered before after (Err Memory) = Unit {0}
IsAnswered before after (Err fault) = ⊥
