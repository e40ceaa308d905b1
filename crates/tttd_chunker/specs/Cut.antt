-- The cut of a stream into chunks by the two thresholds and two divisors of the TTTD report. The fingerprint is
-- this project's own.
use Rattle.std.specs.Prelude.{ℕ, ◌-◌, ◌%◌, Bool, ◌==◌, ◌||◌, nat_lt, nat_le, min, if◌then◌else◌, unwrap_or, is_some, List, length, slice_range}
use Rattle.ss_base.specs.declared.profile.Numbers.{Numbers}
use Rattle.ss_base.specs.Search.{least, greatest}
use Rattle.ss_base.specs.Parts.{parts}
use Rattle.roll_hash.specs.Fingerprint.{fingerprint}

-- the 48 bytes before position k
unfoldable pub window : List ℕ → ℕ → List ℕ
window bytes k = slice_range bytes (k - 48) k

-- the fingerprint before position k has the greatest remainder by the divisor
unfoldable pub meets : ℕ → List ℕ → ℕ → Bool
meets divisor bytes k = fingerprint (window bytes k) % divisor == divisor - 1

-- position k meets the main test
abbrev pub meets_main : Numbers → List ℕ → ℕ → Bool
meets_main n = meets n.d

-- position k meets the backup test
abbrev pub meets_backup : Numbers → List ℕ → ℕ → Bool
meets_backup n = meets n.d2

-- The length of the first chunk of bytes that aren't empty (TTTD): the least position from the lower to the upper
-- threshold that meets the main test; else all the bytes, where they are fewer than the upper threshold; else the
-- greatest position from the lower to the upper threshold that meets the backup test; else the upper threshold.
unfoldable pub first_cut : Numbers → List ℕ → ℕ
first_cut n bytes =
    unwrap_or (least (meets_main n bytes) n.tmin (min n.tmax (length bytes)))
    (if nat_lt (length bytes) n.tmax then length bytes else unwrap_or (greatest (meets_backup n bytes) n.tmin n.tmax) n.tmax)

-- the first chunk ends however the stream goes on: a position meets the main test, or the bytes are at least as
-- many as the upper threshold
unfoldable pub has_cut : Numbers → List ℕ → Bool
has_cut n bytes = is_some (least (meets_main n bytes) n.tmin (min n.tmax (length bytes))) || nat_le n.tmax (length bytes)

-- the chunks of a stream: the first one, and those of the rest
unfoldable pub cut : Numbers → List ℕ → List (List ℕ)
cut n bytes = parts (first_cut n) bytes
