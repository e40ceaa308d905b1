-- Names of files (this project's own).
use Rattle.std.specs.Prelude.{ℕ, ◌≤◌, List, length}
use Rattle.std.specs.List.{AllPass}
use Rattle.std.specs.Char.{is_ascii_graphic}

-- 1 to 255 bytes from 0x21 to 0x7E, which are the visible characters of ASCII
pub record IsFileName (text : List ℕ) : Type 0 where
  pub some : 1 ≤ length text
  pub fits : length text ≤ 255
  pub bytes : AllPass is_ascii_graphic text
