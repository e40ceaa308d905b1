-- A file's name is text.
use Rattle.std.proofs.Common.{◌≡◌, ℕ, ◌<◌, ◌≤◌, leb, true, List, arith}
use Rattle.std.proofs.lemmas.List.Elements.{All-weaker}
use Rattle.std.proofs.lemmas.Bool.{and_parts, leb-true}
use Rattle.std.proofs.lemmas.Str.{IsUtf8-from_ascii}
use Rattle.std.proofs.lemmas.Str.Ascii.{IsAscii-from_all}
use Rattle.std.specs.List.{AllPass}
use Rattle.std.specs.Char.{is_ascii_graphic}
use Rattle.std.specs.Str.{IsUtf8}

visible_is_ascii : (b : ℕ) → is_ascii_graphic b ≡ true → b < 128
visible_is_ascii b visible = let most : b ≤ 126 = leb-true b 126 (and_parts (leb 33 b) (leb b 126) visible).1 in omega arith

-- visible characters are text
pub IsUtf8-visible : (text : List ℕ) → AllPass is_ascii_graphic text → IsUtf8 text
IsUtf8-visible text visible =
    IsUtf8-from_ascii text (IsAscii-from_all text (All-weaker (λ b. is_ascii_graphic b ≡ true) (λ b. b < 128) visible_is_ascii text visible))
