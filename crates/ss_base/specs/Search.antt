-- The least and the greatest number of a range that passes a test.
use Rattle.std.specs.Prelude.{ℕ, ◌+◌, ◌-◌, ◌<◌, ◌≤◌, ◌≡◌, Bool, true, false, Option, find, reverse}
use Rattle.std.specs.List.{range_with_len}

-- the least k with low ≤ k ≤ high that passes
unfoldable pub least : (ℕ → Bool) → ℕ → ℕ → Option ℕ
least passes low high = find passes (range_with_len low (high + 1 - low))

-- the greatest k with low ≤ k ≤ high that passes
unfoldable pub greatest : (ℕ → Bool) → ℕ → ℕ → Option ℕ
greatest passes low high = find passes (reverse (range_with_len low (high + 1 - low)))

-- no k with low ≤ k ≤ high passes
pub record NonePasses (test : ℕ → Bool) (low high : ℕ) : Type 0 where
  pub none : (j : ℕ) → low ≤ j → j ≤ high → test j ≡ false

-- k is the least with low ≤ k ≤ high that passes
pub record IsLeast (test : ℕ → Bool) (low high k : ℕ) : Type 0 where
  pub from : low ≤ k
  pub to : k ≤ high
  pub passes : test k ≡ true
  pub before : (j : ℕ) → low ≤ j → j < k → test j ≡ false

-- k is the greatest with low ≤ k ≤ high that passes
pub record IsGreatest (test : ℕ → Bool) (low high k : ℕ) : Type 0 where
  pub from : low ≤ k
  pub to : k ≤ high
  pub passes : test k ≡ true
  pub after : (j : ℕ) → k < j → j ≤ high → test j ≡ false
