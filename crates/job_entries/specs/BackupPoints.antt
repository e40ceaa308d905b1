-- The calls of a backup, by its answer (this project's own).
use Rattle.std.specs.Prelude.{ℕ, ◌≡◌, ◌⊎◌, List, [], ◌∷◌, ◌++◌, Some, None, Result, Ok, Err}
use Rattle.ss_base.specs.declared.ids.ManifestId.{ManifestId}
use Rattle.ss_base.specs.declared.name.Name.{Name}
use Rattle.journal_entry.specs.declared.entry.Point.{Point}
use Rattle.journal_entry.specs.declared.entry.Point.TheVariants.{Begin, Choose, Finish, Abort}
use Rattle.depot.specs.declared.fault.BackupFault.{BackupFault}
use Rattle.depot.specs.declared.fault.BackupFault.TheVariants.{Taken, NoInput, InputFault, Full, Memory}
use Rattle.job_entries.specs.Pairs.{HasPairs}

-- a session that stores a stream: Begin, Choose and Commit in turn, Finish
abbrev pub finished_points : List ℕ → ℕ → List Point → ℕ → List Point
finished_points name session pairs containers = Begin name (Some session) ∷ pairs ++ Finish session containers ∷ []

pub record IsFinished (name : List ℕ) (session : ℕ) (points : List Point) : Type 0 where
  pub pairs : List Point
  pub containers : ℕ
  pub has_pairs : HasPairs session 0 pairs
  pub points_are : points ≡ finished_points name session pairs containers

-- perhaps one Choose more
pub data IsChoice (session : ℕ) (points : List Point) : Type 0 where
  none : points ≡ [] → IsChoice session points
  one : (chosen : List Name) (champions : List ManifestId) → points ≡ Choose session chosen champions ∷ [] → IsChoice session points

-- a session that is given up: Begin, Choose and Commit in turn, perhaps one Choose more, Abort
abbrev pub given_up_points : List ℕ → ℕ → List Point → List Point → ℕ → ℕ → List Point
given_up_points name session pairs choice containers texts = Begin name (Some session) ∷ pairs ++ (choice ++ Abort session containers texts ∷ [])

pub record IsGivenUp (name : List ℕ) (points : List Point) : Type 0 where
  pub session : ℕ
  pub pairs : List Point
  pub choice : List Point
  pub containers : ℕ
  pub texts : ℕ
  pub has_pairs : HasPairs session 0 pairs
  pub is_choice : IsChoice session choice
  pub points_are : points ≡ given_up_points name session pairs choice containers texts

-- Nothing is begun where the input is not there. Where the name is taken, a Begin says so. Trouble with the input's
-- shelf, an entry that has no room and want of memory may come before a session begins or behind; all else comes behind.
abbrev pub BackupPoints : List ℕ → Result ℕ BackupFault → List Point → Type 0
BackupPoints name (Ok session) points = IsFinished name session points
BackupPoints name (Err Taken) points = points ≡ Begin name None ∷ []
BackupPoints name (Err NoInput) points = points ≡ []
BackupPoints name (Err InputFault) points = (points ≡ []) ⊎ IsGivenUp name points
BackupPoints name (Err Full) points = (points ≡ []) ⊎ IsGivenUp name points
BackupPoints name (Err Memory) points = (points ≡ []) ⊎ IsGivenUp name points
BackupPoints name (Err fault) points = IsGivenUp name points
