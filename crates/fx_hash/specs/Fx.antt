-- FxHash with words of 64 bits, as Firefox and rustc have it.
use Rattle.std.specs.Prelude.{ℕ, zero, suc, ◌+◌, ◌*◌, ◌/◌, ◌%◌, ◌^◌, List, [], ◌∷◌, length, take, drop, fold, bit_xor}
use Rattle.std.specs.Int.{w64, rotate_left, from_le_bytes}
use Rattle.fx_hash.specs.declared.hasher.FxHasher.{FxHasher}

-- before the first word
abbrev pub start : FxHasher
start = record { state = 0 }

-- one word more
abbrev pub one_more : ℕ → ℕ → ℕ
one_more h word = (bit_xor (rotate_left w64 h 5) word * 0x517c_c1b7_2722_0a95) % 2 ^ 64

-- the number that up to eight bytes write, the lowest first
abbrev pub word_of : List ℕ → ℕ
word_of bytes = from_le_bytes w64 bytes

-- the first so many words of these bytes: eight bytes are one, and so is what is left
abbrev pub words : ℕ → List ℕ → List ℕ
words zero bytes = []
words (suc count) bytes = word_of (take 8 bytes) ∷ words count (drop 8 bytes)

-- these bytes more
abbrev pub after : FxHasher → List ℕ → FxHasher
after h bytes = record { state = fold one_more h.state (words ((length bytes + 7) / 8) bytes) }
