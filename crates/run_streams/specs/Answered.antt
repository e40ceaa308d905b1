-- What jobs answer where nothing keeps them off (this project's own).
use Rattle.std.specs.Prelude.{ℕ, ◌≡◌, ◌<◌, ◌≤◌, ◌+◌, ◌⊎◌, true, false, length, None, Result, Err}
use Rattle.std.specs.FinMap.{contains_key}
use Rattle.outside.specs.Shelf.{Objects, bytes_of}
use Rattle.journal_entry.specs.Weight.{weight}
use Rattle.history.specs.Sessions.{is_held, retained}
use Rattle.journal_file.specs.declared.limits.TheConstants.{MAX_ENTRIES, MAX_WEIGHT}
use Rattle.store_core.specs.declared.fault.NameFault.TheVariants as delete
use Rattle.store_core.specs.declared.fault.PointFault.TheVariants as stat
use Rattle.store_core.specs.View.{StateView, past_of}
use Rattle.depot.specs.declared.fault.BackupFault.{BackupFault}
use Rattle.depot.specs.declared.fault.BackupFault.TheVariants as backup
use Rattle.depot.specs.declared.fault.RestoreFault.TheVariants as restore
use Rattle.session.specs.Split.{most_bytes}
use Rattle.job_script.specs.declared.job.JobKind.{JobKind}
use Rattle.job_script.specs.declared.job.JobKind.TheVariants.{Backup, Restore, Delete, Reclaim, Stat}
use Rattle.report.specs.declared.answer.JobAnswer.{JobAnswer}
use Rattle.report.specs.declared.answer.JobAnswer.TheVariants as job
use Rattle.report.specs.declared.answer.ReclaimFault.TheVariants as reclaim

-- no fault of a shelf, and no damage: the stream was stored, or the name is held, the input is not there or too long, an
-- entry has no room, or memory was wanted
abbrev pub IsNoFault : Result ℕ BackupFault → Type 0
IsNoFault (Err backup.InputFault) = ⊥
IsNoFault (Err backup.DepotFault) = ⊥
IsNoFault (Err (backup.Damaged want got)) = ⊥
IsNoFault (Err (backup.Unlike text)) = ⊥
IsNoFault _ = Unit {0}

-- the journal has room for one entry at most, or not for the weight of each entry
abbrev pub IsNearlyFull : StateView → Type 0
IsNearlyFull store = (MAX_ENTRIES ≤ length store.entries + 1) ⊎ (MAX_WEIGHT < weight store.entries + 4096)

-- The answers of a job from a store, with these files, to the history that it leaves: it was done; it is refused, as the
-- history or the files have it; a limit is reached; or memory was wanted. No other answer is due.
abbrev pub IsDue : StateView → StateView → Objects → JobAnswer → JobKind → Type 0
IsDue store new files job.Ok kind = Unit {0}
IsDue store new files (job.Backup backup.Taken) (Backup input name) = is_held name (past_of store) ≡ true
IsDue store new files (job.Backup backup.NoInput) (Backup input name) = contains_key files input ≡ false
IsDue store new files (job.Backup backup.TooLong) (Backup input name) = most_bytes < length (bytes_of files input)
IsDue store new files (job.Backup backup.Full) (Backup input name) = IsNearlyFull new
IsDue store new files (job.Backup backup.Memory) (Backup input name) = Unit {0}
IsDue store new files (job.Restore restore.Exists) (Restore name output) = contains_key files output ≡ true
IsDue store new files (job.Restore restore.NoStream) (Restore name output) = retained name (past_of store) ≡ None
IsDue store new files (job.Restore restore.Full) (Restore name output) = IsNearlyFull new
IsDue store new files (job.Restore restore.Memory) (Restore name output) = Unit {0}
IsDue store new files (job.Delete delete.NoStream) (Delete name) = retained name (past_of store) ≡ None
IsDue store new files (job.Delete delete.Full) (Delete name) = IsNearlyFull new
IsDue store new files (job.Delete delete.Memory) (Delete name) = Unit {0}
IsDue store new files (job.Reclaim reclaim.Full) Reclaim = IsNearlyFull new
IsDue store new files (job.Reclaim reclaim.Memory) Reclaim = Unit {0}
IsDue store new files (job.Stat stat.Full) Stat = IsNearlyFull new
IsDue store new files (job.Stat stat.Memory) Stat = Unit {0}
IsDue store new files _ _ = ⊥
