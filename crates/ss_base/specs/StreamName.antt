-- Names of streams (this project's own).
use Rattle.std.specs.Prelude.{ℕ, ◌≤◌, Bool, ◌||◌, ◌==◌, List, length}
use Rattle.std.specs.List.{AllPass}
use Rattle.std.specs.Char.{is_ascii_alphanumeric}

-- a letter, a digit, or one of . _ -
abbrev pub is_stream_byte : ℕ → Bool
is_stream_byte b = is_ascii_alphanumeric b || (b == 46 || (b == 95 || b == 45))

-- 1 to 64 of these bytes
pub record IsStreamName (text : List ℕ) : Type 0 where
  pub some : 1 ≤ length text
  pub fits : length text ≤ 64
  pub bytes : AllPass is_stream_byte text
