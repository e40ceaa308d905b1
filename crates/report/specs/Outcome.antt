-- The outcomes of jobs, each with one text and one status (this project's own).
use Rattle.depot.specs.declared.fault.BackupFault.{BackupFault}
use Rattle.depot.specs.declared.fault.BackupFault.TheVariants as backup
use Rattle.depot.specs.declared.fault.RestoreFault.{RestoreFault}
use Rattle.depot.specs.declared.fault.RestoreFault.TheVariants as restore
use Rattle.store_core.specs.declared.fault.NameFault.{NameFault}
use Rattle.store_core.specs.declared.fault.NameFault.TheVariants as delete
use Rattle.store_core.specs.declared.fault.PointFault.{PointFault}
use Rattle.store_core.specs.declared.fault.PointFault.TheVariants as stat
use Rattle.report.specs.declared.answer.JobAnswer.{JobAnswer}
use Rattle.report.specs.declared.answer.JobAnswer.TheVariants as answer
use Rattle.report.specs.declared.answer.ReclaimFault.{ReclaimFault}
use Rattle.report.specs.declared.answer.ReclaimFault.TheVariants as reclaim
use Rattle.report.specs.declared.outcome.Outcome.{Outcome}
use Rattle.report.specs.declared.outcome.Outcome.TheVariants.{Ok, Taken, NoStream, NoInput, Exists, InputFault, OutputFault, DepotFault, Damaged, Unlike, TooLong, Full, Memory}

-- the outcome that has the name of what a backup answered
abbrev pub outcome_of_backup : BackupFault → Outcome
outcome_of_backup backup.Taken = Taken
outcome_of_backup backup.NoInput = NoInput
outcome_of_backup backup.InputFault = InputFault
outcome_of_backup backup.TooLong = TooLong
outcome_of_backup backup.DepotFault = DepotFault
outcome_of_backup (backup.Damaged want got) = Damaged want got
outcome_of_backup (backup.Unlike text) = Unlike text
outcome_of_backup backup.Full = Full
outcome_of_backup backup.Memory = Memory

-- the outcome that has the name of what a restore answered
abbrev pub outcome_of_restore : RestoreFault → Outcome
outcome_of_restore restore.Exists = Exists
outcome_of_restore restore.NoStream = NoStream
outcome_of_restore restore.OutputFault = OutputFault
outcome_of_restore restore.DepotFault = DepotFault
outcome_of_restore (restore.Damaged want got) = Damaged want got
outcome_of_restore (restore.Unlike text) = Unlike text
outcome_of_restore restore.Full = Full
outcome_of_restore restore.Memory = Memory

-- the outcome that has the name of what a deletion answered
abbrev pub outcome_of_delete : NameFault → Outcome
outcome_of_delete delete.NoStream = NoStream
outcome_of_delete delete.Full = Full
outcome_of_delete delete.Memory = Memory

-- the outcome that has the name of what an erasure answered
abbrev pub outcome_of_reclaim : ReclaimFault → Outcome
outcome_of_reclaim reclaim.DepotFault = DepotFault
outcome_of_reclaim reclaim.Full = Full
outcome_of_reclaim reclaim.Memory = Memory

-- the outcome that has the name of what a question for the totals answered
abbrev pub outcome_of_stat : PointFault → Outcome
outcome_of_stat stat.Full = Full
outcome_of_stat stat.Memory = Memory

-- the outcome of a job with this answer
abbrev pub outcome_of : JobAnswer → Outcome
outcome_of answer.Ok = Ok
outcome_of (answer.Backup fault) = outcome_of_backup fault
outcome_of (answer.Restore fault) = outcome_of_restore fault
outcome_of (answer.Delete fault) = outcome_of_delete fault
outcome_of (answer.Reclaim fault) = outcome_of_reclaim fault
outcome_of (answer.Stat fault) = outcome_of_stat fault
