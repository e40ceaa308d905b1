-- The last eight bytes of what is hashed (this project's own).
use Rattle.std.specs.Prelude.{ℕ, ◌*◌, ◌-◌, ◌%◌, ◌^◌, List, length, drop, fold, bit_xor, nat_lt, if◌then◌else◌}
use Rattle.std.specs.Int.{w64, from_be_bytes}
use Rattle.sparse_index.specs.declared.last_bytes.LastBytes.{LastBytes}

-- before the first byte
abbrev pub start : LastBytes
start = record { state = 0 }

-- one byte more
abbrev pub one_more : ℕ → ℕ → ℕ
one_more h byte = bit_xor ((h * 256) % 2 ^ 64) byte

-- these bytes more: the number that the last eight make, or, where they are fewer, one after another
abbrev pub after : LastBytes → List ℕ → LastBytes
after h bytes =
    record { state = if nat_lt (length bytes) 8 then fold one_more h.state bytes else from_be_bytes w64 (drop (length bytes - 8) bytes) }
