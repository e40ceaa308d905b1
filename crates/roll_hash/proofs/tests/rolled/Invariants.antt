use Rattle.std.proofs.Common.{◌≡◌, take}
use Rattle.circular_buffer.specs.Buffer.{keep_last}
use Rattle.roll_hash.proofs.tests.rolled.Given as goal

abbrev pub invariant-loop-byte : goal.invariant-loop-byte
invariant-loop-byte l = l.roll ≡ keep_last 48 (take l.byte-index l.bytes)
