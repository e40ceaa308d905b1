-- How a rolling fingerprint keeps its window.
use Rattle.std.specs.Prelude.{◌≡◌, ◌≤◌, ℕ, List, length}
use Rattle.roll_hash.specs.Fingerprint.{window_sum}
use Rattle.roll_hash.specs.declared.roll.Roll.TheInside.{Inside}

-- the bytes of the window
abbrev pub rolled_window : Inside → List ℕ
rolled_window r = r.ring.items

-- the ring holds at most 48 bytes, and the sum is theirs
pub record IsRolled (r : Inside) : Type 0 where
  pub capacity : r.ring.capacity ≡ 48
  pub within : length r.ring.items ≤ 48
  pub sum : r.sum ≡ window_sum r.ring.items
