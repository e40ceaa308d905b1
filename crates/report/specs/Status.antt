-- The statuses of answers (this project's own).
use Rattle.std.specs.Prelude.{ℕ}
use Rattle.report.specs.declared.answer.JobAnswer.{JobAnswer}
use Rattle.report.specs.declared.outcome.Outcome.{Outcome}
use Rattle.report.specs.declared.outcome.Outcome.TheVariants.{Ok, Taken, NoStream, NoInput, Exists, InputFault, OutputFault, DepotFault, Damaged, Unlike, TooLong, Full, Memory}
use Rattle.report.specs.Outcome.{outcome_of}

-- the status of an outcome: 2 is a refusal, 3 a fault of files, 4 one of the depot, 5 damage, 7 a limit, 8 want of memory
abbrev pub outcome_status : Outcome → ℕ
outcome_status Ok = 0
outcome_status Taken = 2
outcome_status NoStream = 2
outcome_status NoInput = 2
outcome_status Exists = 2
outcome_status InputFault = 3
outcome_status OutputFault = 3
outcome_status DepotFault = 4
outcome_status (Damaged want got) = 5
outcome_status (Unlike text) = 5
outcome_status TooLong = 7
outcome_status Full = 7
outcome_status Memory = 8

-- the status of a job's answer
abbrev pub answer_status : JobAnswer → ℕ
answer_status answer = outcome_status (outcome_of answer)
