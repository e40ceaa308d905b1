-- What a script says (this project's own).
use Rattle.std.specs.Prelude.{◌≡◌, ℕ, ◌+◌, ◌≤◌, ◌<◌, List, [], ◌∷◌, ◌++◌, length}
use Rattle.std.specs.Str.Lines.{lines}
use Rattle.job_script.specs.declared.job.Job.{Job}
use Rattle.job_script.specs.Grammar.{Says, IsOutside}

-- the jobs that these lines say, in order
abbrev pub AreJobs : ℕ → List (List ℕ) → List Job → Type 0
AreJobs lanes [] jobs = jobs ≡ []
AreJobs lanes (line ∷ more) jobs = (said : List Job) × (rest : List Job) × (jobs ≡ said ++ rest) × Says lanes line said × AreJobs lanes more rest

-- the most jobs of a script
abbrev pub most_jobs : ℕ
most_jobs = 4096

-- a script has these jobs
pub record HasJobs (lanes : ℕ) (script : List ℕ) (jobs : List Job) : Type 0 where
  pub jobs_are : AreJobs lanes (lines script) jobs
  pub fits : length jobs ≤ most_jobs

-- a line, counted from 1, is the first outside the grammar, and no more jobs stand before it than a script may have
pub record IsFirstBad (lanes : ℕ) (script : List ℕ) (number : ℕ) : Type 0 where
  pub before : List (List ℕ)
  pub line : List ℕ
  pub after : List (List ℕ)
  pub jobs : List Job
  pub lines_are : lines script ≡ before ++ line ∷ after
  pub number_is : number ≡ length before + 1
  pub jobs_are : AreJobs lanes before jobs
  pub fits : length jobs ≤ most_jobs
  pub bad : IsOutside lanes line

-- more jobs than a script may have stand before any line outside the grammar
pub record HasTooMany (lanes : ℕ) (script : List ℕ) : Type 0 where
  pub before : List (List ℕ)
  pub after : List (List ℕ)
  pub jobs : List Job
  pub lines_are : lines script ≡ before ++ after
  pub jobs_are : AreJobs lanes before jobs
  pub many : most_jobs < length jobs
