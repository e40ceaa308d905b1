-- Which names are hooks (FAST 2009, sampling).
use Rattle.std.specs.Prelude.{ℕ, ◌-◌, ◌/◌, ◌^◌, Bool, ◌==◌, take}
use Rattle.std.specs.Int.{w32, from_be_bytes}
use Rattle.ss_base.specs.declared.name.Name.{Name}

-- whether the first bits bits of a name are zero, of at most 32
abbrev pub is_hook : ℕ → Name → Bool
is_hook bits name = from_be_bytes w32 (take 4 name.0) / 2 ^ (32 - bits) == 0
