-- What one more line adds to the jobs so far (this project's own).
use Rattle.std.specs.Prelude.{◌≡◌, ℕ, ◌+◌, ◌≤◌, List, [], ◌∷◌, ◌++◌, length}
use Rattle.std.specs.Str.Lines.{lines}
use Rattle.job_script.specs.declared.job.Job.{Job}
use Rattle.job_script.specs.declared.fault.ScriptFault.{ScriptFault}
use Rattle.job_script.specs.declared.fault.ScriptFault.TheVariants.{BadLine, TooMany, Memory}
use Rattle.job_script.specs.Grammar.{Says, IsOutside}
use Rattle.job_script.specs.Script.{AreJobs, most_jobs}

-- the new jobs are the old ones and what the line says
pub record AddsJobs (lanes : ℕ) (line : List ℕ) (old new : List Job) : Type 0 where
  pub said : List Job
  pub says : Says lanes line said
  pub new_is : new ≡ old ++ said

-- the line is bad and has this number, or says a job for which there is no room; of want of memory it is no cause
abbrev pub IsStoppedBy : ScriptFault → ℕ → List ℕ → ℕ → List Job → Type 0
IsStoppedBy (BadLine bad) lanes line number old = (bad ≡ number) × IsOutside lanes line
IsStoppedBy TooMany lanes line number old = (job : Job) × Says lanes line (job ∷ []) × (length old ≡ most_jobs)
IsStoppedBy Memory lanes line number old = Unit {0}

-- some lines of a script were read: how many they are, their jobs, and the bytes behind them
pub record IsFront (lanes : ℕ) (script : List ℕ) (number : ℕ) (jobs : List Job) (rest : List ℕ) : Type 0 where
  pub before : List (List ℕ)
  pub lines_are : lines script ≡ before ++ lines rest
  pub number_is : number ≡ length before
  pub jobs_are : AreJobs lanes before jobs
  pub fits : length jobs ≤ most_jobs
  pub room : number + length rest ≤ length script
