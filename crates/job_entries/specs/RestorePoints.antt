-- The calls of a restore, by its answer (this project's own).
use Rattle.std.specs.Prelude.{ℕ, ◌≡◌, ◌⊎◌, List, [], ◌∷◌, Some, None, Result, Ok, Err}
use Rattle.journal_entry.specs.declared.entry.Point.{Point}
use Rattle.journal_entry.specs.declared.entry.Point.TheVariants.{Look, Done}
use Rattle.journal_entry.specs.declared.entry.Seen.{Seen}
use Rattle.depot.specs.declared.fault.RestoreFault.{RestoreFault}
use Rattle.depot.specs.declared.fault.RestoreFault.TheVariants.{Exists, NoStream, OutputFault, Full, Memory}

-- a stream that is looked up, and its reading ended
pub record IsRead (name : List ℕ) (points : List Point) : Type 0 where
  pub found : Seen
  pub points_are : points ≡ Look name (Some found) ∷ Done found.reader ∷ []

-- Nothing is looked up where the output is there, and the entry of a Look had no room where that is the answer. Where
-- there is no stream, a Look says so. Trouble with the output's shelf and want of memory may come before the Look or
-- behind; all else comes behind.
abbrev pub RestorePoints : List ℕ → Result ℕ RestoreFault → List Point → Type 0
RestorePoints name (Ok count) points = IsRead name points
RestorePoints name (Err Exists) points = points ≡ []
RestorePoints name (Err NoStream) points = points ≡ Look name None ∷ []
RestorePoints name (Err Full) points = points ≡ []
RestorePoints name (Err OutputFault) points = (points ≡ []) ⊎ IsRead name points
RestorePoints name (Err Memory) points = (points ≡ []) ⊎ IsRead name points
RestorePoints name (Err fault) points = IsRead name points
