-- The cut once more, as a relation between a stream and its chunks (TTTD).
use Rattle.std.specs.Prelude.{◌≡◌, ℕ, ◌<◌, ◌≤◌, min, List, [], ◌∷◌, ◌++◌, length}
use Rattle.ss_base.specs.declared.profile.Numbers.{Numbers}
use Rattle.ss_base.specs.Search.{NonePasses, IsLeast, IsGreatest}
use Rattle.tttd_chunker.specs.Cut.{meets_main, meets_backup}

-- no position up to the upper threshold, or the end, meets the main test
abbrev pub HasNoMain : Numbers → List ℕ → Type 0
HasNoMain n bytes = NonePasses (meets_main n bytes) n.tmin (min n.tmax (length bytes))

-- the first chunk of these bytes, which aren't empty, has k bytes
pub data IsFirstCut (n : Numbers) (bytes : List ℕ) (k : ℕ) : Type 0 where
  by_main : IsLeast (meets_main n bytes) n.tmin (min n.tmax (length bytes)) k → IsFirstCut n bytes k
  by_end : HasNoMain n bytes → length bytes < n.tmax → k ≡ length bytes → IsFirstCut n bytes k
  by_backup : HasNoMain n bytes → n.tmax ≤ length bytes → IsGreatest (meets_backup n bytes) n.tmin n.tmax k → IsFirstCut n bytes k
  by_threshold : HasNoMain n bytes → n.tmax ≤ length bytes → NonePasses (meets_backup n bytes) n.tmin n.tmax → k ≡ n.tmax → IsFirstCut n bytes k

-- these are the chunks of the bytes: each is the first of what it and its followers hold
abbrev pub IsCut : Numbers → List (List ℕ) → List ℕ → Type 0
IsCut n [] bytes = bytes ≡ []
IsCut n (chunk ∷ chunks) bytes =
    (rest : List ℕ) × (bytes ≡ chunk ++ rest) × (0 < length chunk) × IsFirstCut n bytes (length chunk) × IsCut n chunks rest

-- each chunk has a byte and at most as many as the upper threshold says, and each but the last at least as many as
-- the lower says
abbrev pub IsSized : Numbers → List (List ℕ) → Type 0
IsSized n [] = Unit {0}
IsSized n (chunk ∷ chunks) =
    (0 < length chunk) × (length chunk ≤ n.tmax) × (0 < length chunks → n.tmin ≤ length chunk) × IsSized n chunks
