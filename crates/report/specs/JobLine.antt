-- The lines that are printed of jobs (this project's own).
use Rattle.std.specs.Prelude.{ℕ, List, ◌++◌, codes}
use Rattle.std.specs.Fmt.{decimal}
use Rattle.ss_base.specs.declared.name.Name.{Name}
use Rattle.chunk_name.specs.Hex.{encode_lower}
use Rattle.job_script.specs.declared.job.Job.{Job}
use Rattle.job_script.specs.Grammar.{verb}
use Rattle.report.specs.declared.answer.JobAnswer.{JobAnswer}
use Rattle.report.specs.declared.outcome.Outcome.{Outcome}
use Rattle.report.specs.declared.outcome.Outcome.TheVariants.{Ok, Taken, NoStream, NoInput, Exists, InputFault, OutputFault, DepotFault, Damaged, Unlike, TooLong, Full, Memory}
use Rattle.report.specs.Outcome.{outcome_of}

-- the SHA-256 that was kept, and that of what was read
unfoldable pub damaged_words : Name → Name → List ℕ
damaged_words want got = codes "damaged " ++ encode_lower want.0 ++ codes " " ++ encode_lower got.0

-- the SHA-256 of a text that is not the one that was kept
unfoldable pub unlike_words : Name → List ℕ
unlike_words text = codes "unlike " ++ encode_lower text.0

-- what is printed of an outcome
unfoldable pub outcome_words : Outcome → List ℕ
outcome_words Ok = codes "ok"
outcome_words Taken = codes "taken"
outcome_words NoStream = codes "nostream"
outcome_words NoInput = codes "noinput"
outcome_words Exists = codes "exists"
outcome_words InputFault = codes "inputfault"
outcome_words OutputFault = codes "outputfault"
outcome_words DepotFault = codes "depotfault"
outcome_words (Damaged want got) = damaged_words want got
outcome_words (Unlike text) = unlike_words text
outcome_words TooLong = codes "toolong"
outcome_words Full = codes "full"
outcome_words Memory = codes "memory"

-- the job's number, its lane, the word of its kind, what is printed of its outcome, LF
unfoldable pub job_line : ℕ → Job → JobAnswer → List ℕ
job_line number job answer =
    codes "job "
    ++ decimal number
    ++ codes " lane "
    ++ decimal job.lane
    ++ codes " "
    ++ verb job.kind
    ++ codes " "
    ++ outcome_words (outcome_of answer)
    ++ codes "\n"
