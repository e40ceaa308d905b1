-- What a chunker remembers of the bytes that it has looked at.
use Rattle.std.specs.Prelude.{◌≡◌, ℕ, ◌<◌, ◌≤◌, Bool, true, false, List, length}
use Rattle.ss_base.specs.declared.profile.Numbers.{Numbers}
use Rattle.ss_base.specs.Search.{greatest, NonePasses, IsLeast}
use Rattle.roll_hash.specs.Fingerprint.{window_sum}
use Rattle.tttd_chunker.specs.declared.progress.Scan.{Scan}
use Rattle.tttd_chunker.specs.declared.progress.Progress.{Progress}
use Rattle.tttd_chunker.specs.declared.progress.Progress.TheVariants.{Fresh, Scanned, Cut}
use Rattle.tttd_chunker.specs.Cut.{window, meets_main, meets_backup, first_cut, has_cut}

-- the positions up to one were looked at: none meets the main test, and the last one is known that meets the
-- backup test
pub record HasScanned (n : Numbers) (bytes : List ℕ) (s : Scan) : Type 0 where
  pub from : n.tmin ≤ s.at
  pub to : s.at ≤ length bytes
  pub sum : s.sum ≡ window_sum (window bytes s.at)
  pub main : NonePasses (meets_main n bytes) n.tmin s.at
  pub backup : s.backup ≡ greatest (meets_backup n bytes) n.tmin s.at

-- the length of the first chunk is known
pub record IsKnown (n : Numbers) (bytes : List ℕ) (k : ℕ) : Type 0 where
  pub first : first_cut n bytes ≡ k
  pub within : k ≤ length bytes
  pub ended : has_cut n bytes ≡ true

-- what is remembered is so
abbrev pub IsProgress : Numbers → List ℕ → Progress → Type 0
IsProgress n bytes Fresh = Unit {0}
IsProgress n bytes (Scanned s) = HasScanned n bytes s × (s.at < n.tmax)
IsProgress n bytes (Cut k) = IsKnown n bytes k

-- the search has come to the end, or to the least position that meets the main test
abbrev pub IsScannedTo : Numbers → List ℕ → ℕ → Progress → Type 0
IsScannedTo n bytes end Fresh = ⊥
IsScannedTo n bytes end (Scanned s) = HasScanned n bytes s × (s.at ≡ end)
IsScannedTo n bytes end (Cut k) = IsLeast (meets_main n bytes) n.tmin end k

-- the first chunk is known to have ended
abbrev pub is_cut : Progress → Bool
is_cut Fresh = false
is_cut (Scanned s) = false
is_cut (Cut k) = true
