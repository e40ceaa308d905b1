-- The fingerprint of a window of 48 bytes (this project's own; it is no Rabin fingerprint).
use Rattle.std.specs.Prelude.{ℕ, ◌+◌, ◌*◌, ◌/◌, ◌%◌, ◌^◌, List, [], ◌∷◌, length}

-- what a byte's weight grows by for each byte that follows it
unfoldable pub base : ℕ
base = 0x9E3779B97F4A7C15

-- the sum of the bytes, each times the base to the number of bytes that follow it: of 48 bytes, the byte at i
-- has the weight base ^ (47 - i)
unfoldable pub weighted_sum : List ℕ → ℕ
weighted_sum [] = 0
weighted_sum (x ∷ xs) = x * base ^ length xs + weighted_sum xs

-- the sum modulo 2 ^ 64
unfoldable pub window_sum : List ℕ → ℕ
window_sum window = weighted_sum window % 2 ^ 64

-- the sum modulo 2 ^ 64, divided by 2 ^ 32 and rounded down
unfoldable pub fingerprint : List ℕ → ℕ
fingerprint window = window_sum window / 2 ^ 32
