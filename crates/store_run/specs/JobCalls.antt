-- The calls of a command that is a job: the points of its entries, by its answer (this project's own).
use Rattle.std.specs.Prelude.{◌≡◌, ℕ, ◌≤◌, ◌⊎◌, List, [], ◌∷◌, ◌++◌, length, None, Some, Result}
use Rattle.ss_base.specs.declared.object.Object.{Object}
use Rattle.journal_entry.specs.declared.entry.Totals.{Totals}
use Rattle.journal_entry.specs.declared.entry.Point.{Point}
use Rattle.journal_entry.specs.declared.entry.Point.TheVariants as point
use Rattle.store_core.specs.declared.fault.NameFault.TheVariants as name
use Rattle.depot.specs.declared.fault.BackupFault.{BackupFault}
use Rattle.depot.specs.declared.fault.RestoreFault.{RestoreFault}
use Rattle.job_script.specs.declared.job.JobKind.{JobKind}
use Rattle.job_script.specs.declared.job.JobKind.TheVariants.{Backup, Restore, Delete, Reclaim, Stat}
use Rattle.report.specs.declared.answer.JobAnswer.{JobAnswer}
use Rattle.report.specs.declared.answer.JobAnswer.TheVariants as job
use Rattle.report.specs.declared.answer.ReclaimFault.TheVariants as reclaim
use Rattle.job_entries.specs.BackupPoints.{BackupPoints}
use Rattle.job_entries.specs.RestorePoints.{RestorePoints}
use Rattle.job_run.specs.Jobs.{answer_of}

-- one Delete, of the session whose stream it was, or of none; nothing where it was refused
abbrev pub DeleteCalls : List ℕ → JobAnswer → List Point → Type 0
DeleteCalls asked job.Ok points = (session : ℕ) × (points ≡ point.Delete asked (Some session) ∷ [])
DeleteCalls asked (job.Delete name.NoStream) points = points ≡ point.Delete asked None ∷ []
DeleteCalls asked (job.Delete name.Full) points = points ≡ []
DeleteCalls asked (job.Delete name.Memory) points = points ≡ []
DeleteCalls asked _ points = ⊥

-- one Stat; nothing where it was refused
abbrev pub StatCalls : JobAnswer → List Point → Type 0
StatCalls job.Ok points = (given : Totals) × (points ≡ point.Stat given ∷ [])
StatCalls (job.Stat fault) points = points ≡ []
StatCalls _ points = ⊥

-- Reclaims of 16 objects each
abbrev pub FullReclaims : List Point → Type 0
FullReclaims [] = Unit {0}
FullReclaims (point.Reclaim objects ∷ points) = (length objects ≡ 16) × FullReclaims points
FullReclaims (_ ∷ points) = ⊥

-- and one more behind them, of at most so many
pub record EndsReclaims (most : ℕ) (points : List Point) : Type 0 where
  pub earlier : List Point
  pub full : FullReclaims earlier
  pub objects : List Object
  pub few : length objects ≤ most
  pub points_are : points ≡ earlier ++ point.Reclaim objects ∷ []

-- Reclaims of 16 objects each, and one of fewer at the end; the last may have 16 where an erase met trouble, and is
-- missing where it was refused
abbrev pub ReclaimCalls : JobAnswer → List Point → Type 0
ReclaimCalls job.Ok points = EndsReclaims 15 points
ReclaimCalls (job.Reclaim reclaim.DepotFault) points = EndsReclaims 16 points
ReclaimCalls (job.Reclaim reclaim.Full) points = FullReclaims points
ReclaimCalls (job.Reclaim reclaim.Memory) points = FullReclaims points ⊎ EndsReclaims 16 points
ReclaimCalls _ points = ⊥

-- those of a backup and a restore are told by what the call answered
pub record BackupCalls (asked : List ℕ) (answer : JobAnswer) (points : List Point) : Type 0 where
  pub result : Result ℕ BackupFault
  pub answer_is : answer ≡ answer_of job.Backup result
  pub points_are : BackupPoints asked result points

pub record RestoreCalls (asked : List ℕ) (answer : JobAnswer) (points : List Point) : Type 0 where
  pub result : Result ℕ RestoreFault
  pub answer_is : answer ≡ answer_of job.Restore result
  pub points_are : RestorePoints asked result points

abbrev pub JobCalls : JobKind → JobAnswer → List Point → Type 0
JobCalls (Backup input asked) answer points = BackupCalls asked answer points
JobCalls (Restore asked output) answer points = RestoreCalls asked answer points
JobCalls (Delete asked) answer points = DeleteCalls asked answer points
JobCalls Reclaim answer points = ReclaimCalls answer points
JobCalls Stat answer points = StatCalls answer points
