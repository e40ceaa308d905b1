use Rattle.std.proofs.Common.{◌≡◌, take}
use Rattle.roll_hash.specs.Fingerprint.{window_sum}
use Rattle.roll_hash.proofs.window.sum_of.Given as goal

abbrev pub invariant-loop-byte : goal.invariant-loop-byte
invariant-loop-byte l = l.sum ≡ window_sum (take l.byte-index l.window)
