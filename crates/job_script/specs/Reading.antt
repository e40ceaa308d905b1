-- How a line is read, word by word (this project's own).
use Rattle.std.specs.Prelude.{◌≡◌, ℕ, List, [], ◌∷◌}
use Rattle.job_script.specs.declared.job.JobKind.{JobKind}
use Rattle.job_script.specs.declared.reading.Line.{Line}
use Rattle.job_script.specs.declared.reading.Line.TheVariants.{Skipped, One, Outside}
use Rattle.job_script.specs.Grammar.{verb, operands, HasNames, Says, IsOutside}

-- a word is the verb of a job of this kind, and these words are its names
pub record IsKind (word : List ℕ) (others : List (List ℕ)) (kind : JobKind) : Type 0 where
  pub verb_is : word ≡ verb kind
  pub operands_are : others ≡ operands kind
  pub names : HasNames kind

-- what was read of a line is what it says
abbrev pub IsReading : ℕ → List ℕ → Line → Type 0
IsReading lanes line Skipped = Says lanes line []
IsReading lanes line (One job) = Says lanes line (job ∷ [])
IsReading lanes line Outside = IsOutside lanes line
