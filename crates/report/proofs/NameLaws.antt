-- The name of a stream is text.
use Rattle.std.proofs.Common.{◌≡◌, ℕ, ◌<◌, true, List, arith}
use Rattle.std.proofs.lemmas.Bool.Decides.{nat_tests}
use Rattle.std.proofs.lemmas.List.Elements.{All-weaker}
use Rattle.std.proofs.lemmas.Str.{IsUtf8-from_ascii}
use Rattle.std.proofs.lemmas.Str.Ascii.{IsAscii-from_all}
use Rattle.std.specs.Str.{IsUtf8}
use Rattle.ss_base.specs.StreamName.{is_stream_byte, IsStreamName}

is_ascii_byte : (b : ℕ) → is_stream_byte b ≡ true → b < 128
is_ascii_byte b pass = grind (arith, nat_tests)

pub IsUtf8-stream_name : (name : List ℕ) → IsStreamName name → IsUtf8 name
IsUtf8-stream_name name is =
    IsUtf8-from_ascii name (IsAscii-from_all name (All-weaker (λ b. is_stream_byte b ≡ true) (λ b. b < 128) is_ascii_byte name is.bytes))
