-- The streams of a run (this project's own).
use Rattle.std.specs.Prelude.{◌≡◌, ℕ, List, Some}
use Rattle.outside.specs.Shelf.{Objects, bytes_of}
use Rattle.outside.specs.Views.{ShelfView}
use Rattle.journal_entry.specs.declared.entry.Entry.{Entry}
use Rattle.stored_streams.specs.Streams.{Streams}
use Rattle.job_script.specs.declared.job.JobKind.{JobKind}
use Rattle.job_script.specs.declared.job.JobKind.TheVariants.{Backup, Restore, Delete, Reclaim, Stat}
use Rattle.backed_up_streams.specs.OfInput.{IsOfInput}

-- the files are told, and each session that began has the file's bytes as its stream
pub record HasFile (input : List ℕ) (streams : Streams) (files : ShelfView) (older past : List Entry) : Type 0 where
  pub objects : Objects
  pub told : files.held ≡ Some objects
  pub of_input : IsOfInput streams older past (bytes_of objects input)

-- the same of a backup's input; no other job begins a session
abbrev pub HasInput : JobKind → Streams → ShelfView → List Entry → List Entry → Type 0
HasInput (Backup input name) streams files older past = HasFile input streams files older past
HasInput (Restore name output) streams files older past = Unit {0}
HasInput (Delete name) streams files older past = Unit {0}
HasInput Reclaim streams files older past = Unit {0}
HasInput Stat streams files older past = Unit {0}

-- a job that is no backup
abbrev pub StoresNothing : JobKind → Type 0
StoresNothing (Backup input name) = ⊥
StoresNothing (Restore name output) = Unit {0}
StoresNothing (Delete name) = Unit {0}
StoresNothing Reclaim = Unit {0}
StoresNothing Stat = Unit {0}
