-- What the lines of a script say (this project's own).
use Rattle.std.specs.Prelude.{◌≡◌, ℕ, ◌+◌, ◌≤◌, List, [], ◌∷◌, Some, codes, slice_get}
use Rattle.ss_base.specs.StreamName.{IsStreamName}
use Rattle.job_script.specs.declared.job.Job.{Job}
use Rattle.job_script.specs.declared.job.JobKind.{JobKind}
use Rattle.job_script.specs.declared.job.JobKind.TheVariants.{Backup, Restore, Delete, Reclaim, Stat}
use Rattle.job_script.specs.FileName.{IsFileName}
use Rattle.job_script.specs.Words.{words}

-- the word that tells the kind of a job
abbrev pub verb : JobKind → List ℕ
verb (Backup input name) = codes "backup"
verb (Restore name output) = codes "restore"
verb (Delete name) = codes "delete"
verb Reclaim = codes "reclaim"
verb Stat = codes "stat"

-- the words behind it: the names of the file and of the stream
abbrev pub operands : JobKind → List (List ℕ)
operands (Backup input name) = input ∷ name ∷ []
operands (Restore name output) = name ∷ output ∷ []
operands (Delete name) = name ∷ []
operands Reclaim = []
operands Stat = []

-- these are a file's name and a stream's
abbrev pub HasNames : JobKind → Type 0
HasNames (Backup input name) = IsFileName input × IsStreamName name
HasNames (Restore name output) = IsFileName output × IsStreamName name
HasNames (Delete name) = IsStreamName name
HasNames Reclaim = Unit {0}
HasNames Stat = Unit {0}

-- the word of a lane, which is one digit
abbrev pub lane_word : ℕ → List ℕ
lane_word lane = (48 + lane) ∷ []

-- a lane is a digit from 1 to the number of lanes
pub record IsLane (lanes lane : ℕ) : Type 0 where
  pub from : 1 ≤ lane
  pub to : lane ≤ lanes
  pub digit : lane ≤ 9

-- a job of a script: its lane is one of the run, and its names are names
pub record IsJob (lanes : ℕ) (job : Job) : Type 0 where
  pub lane : IsLane lanes job.lane
  pub names : HasNames job.kind

-- words are a job's: its lane, its verb and its names
pub record AreJobWords (lanes : ℕ) (said : List (List ℕ)) (job : Job) : Type 0 where
  pub words_are : said ≡ lane_word job.lane ∷ verb job.kind ∷ operands job.kind
  pub valid : IsJob lanes job

-- no word, or a first one that begins with #
abbrev pub AreSkipped : List (List ℕ) → Type 0
AreSkipped [] = Unit {0}
AreSkipped (first ∷ more) = slice_get first 0 ≡ Some 35

-- what a line says: no job where it is skipped, else the one job whose words it has
abbrev pub Says : ℕ → List ℕ → List Job → Type 0
Says lanes line [] = AreSkipped (words line)
Says lanes line (job ∷ []) = AreJobWords lanes (words line) job
Says lanes line (job ∷ other ∷ more) = ⊥

-- a line is outside the grammar: it says nothing
abbrev pub IsOutside : ℕ → List ℕ → Type 0
IsOutside lanes line = (jobs : List Job) → Says lanes line jobs → ⊥
