use Rattle.std.proofs.Common.{sym}
use Rattle.roll_hash.proofs.FingerprintLaws.{window_sum-nil}
use Rattle.roll_hash.proofs.window.sum_of.Goals as goal

pub loop-byte-init : goal.loop-byte-init
loop-byte-init c = sym window_sum-nil
