-- What a job does, by its answer (this project's own).
use Rattle.std.specs.Prelude.{◌≡◌, ℕ, List, Result, Ok, Err}
use Rattle.outside.specs.Views.{OnlyReads}
use Rattle.journal_entry.specs.declared.entry.Totals.{Totals}
use Rattle.store_core.specs.declared.fault.NameFault.{NameFault}
use Rattle.store_core.specs.declared.fault.PointFault.{PointFault}
use Rattle.store_core.specs.View.{StateView}
use Rattle.store_core.specs.Answers.{DeleteAnswer, StatAnswer}
use Rattle.depot.specs.declared.fault.BackupFault.{BackupFault}
use Rattle.depot.specs.declared.fault.RestoreFault.{RestoreFault}
use Rattle.segment_store.specs.Loads.{Entries}
use Rattle.session.specs.Backup.{HasRunAlone}
use Rattle.restore.specs.Copies.{Shelves}
use Rattle.restore.specs.Restores.{StateCalls, RestoreAnswer, RestoreCause, RestoreCounts, FilesAnswer}
use Rattle.job_script.specs.declared.job.JobKind.{JobKind}
use Rattle.job_script.specs.declared.job.JobKind.TheVariants.{Backup, Restore, Delete, Reclaim, Stat}
use Rattle.report.specs.declared.answer.JobAnswer.{JobAnswer}
use Rattle.report.specs.declared.answer.JobAnswer.TheVariants as job
use Rattle.job_run.specs.Erasing.{ReclaimDone, ReclaimsDone}

-- what a call's answer is as a job's
abbrev pub answer_of : {T E : Type 0} → (E → JobAnswer) → Result T E → JobAnswer
answer_of refused (Ok done) = job.Ok
answer_of refused (Err fault) = refused fault

-- a backup of a file under a name, with a cache before and after
pub record BackupDone (standings champions author : ℕ) (input name : List ℕ) (old new : StateView) (before after : Shelves) (cache cache' : Entries) (answer : JobAnswer) : Type 0 where
  pub result : Result ℕ BackupFault
  pub answer_is : answer ≡ answer_of job.Backup result
  pub done : HasRunAlone standings champions author before.files after.files input name old new before.depot after.depot cache cache' result

-- a restore of a stream to a file
pub record RestoreDone (author : ℕ) (name output : List ℕ) (old new : StateView) (before after : Shelves) (answer : JobAnswer) : Type 0 where
  pub result : Result ℕ RestoreFault
  pub answer_is : answer ≡ answer_of job.Restore result
  pub done : RestoreAnswer (StateCalls old author name new) output before after result
  pub cause : RestoreCause output before after result
  pub counts : RestoreCounts before after result
  pub files : FilesAnswer output before.files after.files result
  pub depot : OnlyReads before.depot after.depot

-- a delete of a name
pub record DeleteDone (author : ℕ) (name : List ℕ) (old new : StateView) (answer : JobAnswer) : Type 0 where
  pub result : Result ℕ NameFault
  pub answer_is : answer ≡ answer_of job.Delete result
  pub done : DeleteAnswer old new author name result

-- a stat
pub record StatDone (author : ℕ) (old new : StateView) (answer : JobAnswer) : Type 0 where
  pub result : Result Totals PointFault
  pub answer_is : answer ≡ answer_of job.Stat result
  pub done : StatAnswer old new author result

-- a job of an author
abbrev pub JobDone : ℕ → ℕ → ℕ → JobKind → StateView → StateView → Shelves → Shelves → Entries → Entries → JobAnswer → Type 0
JobDone standings champions author (Backup input name) old new before after cache cache' answer = BackupDone standings champions author input name old new before after cache cache' answer
JobDone standings champions author (Restore name output) old new before after cache cache' answer = RestoreDone author name output old new before after answer
JobDone standings champions author (Delete name) old new before after cache cache' answer = DeleteDone author name old new answer × (after ≡ before)
JobDone standings champions author Reclaim old new before after cache cache' answer = ReclaimDone author old new before.depot after.depot answer × (after.files ≡ before.files)
JobDone standings champions author Stat old new before after cache cache' answer = StatDone author old new answer × (after ≡ before)

-- only a backup changes the cache
abbrev pub KeepsCache : JobKind → Entries → Entries → Type 0
KeepsCache (Backup input name) cache cache' = Unit {0}
KeepsCache kind cache cache' = cache' ≡ cache

-- the same of a command, which reclaims until nothing is left to be erased
abbrev pub CommandDone : ℕ → ℕ → ℕ → JobKind → StateView → StateView → Shelves → Shelves → Entries → Entries → JobAnswer → Type 0
CommandDone standings champions author Reclaim old new before after cache cache' answer = ReclaimsDone author old new before.depot after.depot answer × (after.files ≡ before.files)
CommandDone standings champions author kind old new before after cache cache' answer = JobDone standings champions author kind old new before after cache cache' answer
