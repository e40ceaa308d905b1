use Rattle.std.proofs.Common.{◌/◌, ◌^◌, ap}
use Rattle.roll_hash.specs.Fingerprint.{fingerprint}
use Rattle.roll_hash.proofs.sum.high_half.Goals as goal

pub returns : goal.returns
unfolding fingerprint
returns c window is = ap (λ n. n / 2 ^ 32) is
