use Rattle.std.proofs.Common.{◌+◌, ◌*◌, ◌%◌, ◌^◌, ◌∙◌, ap, sym}
use Rattle.std.proofs.Math.Nat.{mod-add-mod}
use Rattle.roll_hash.specs.Fingerprint.{base}
use Rattle.roll_hash.proofs.FingerprintLaws.{window_sum-snoc}
use Rattle.roll_hash.proofs.sum.append.Goals as goal

pub returns : goal.returns
unfolding base
returns c window is =
    ap (λ n. (c.args.sum * base % 2 ^ 64 + n) % 2 ^ 64) c.from.ensures
    ∙ mod-add-mod (c.args.sum * base) (2 ^ 64) c.args.byte
    ∙ ap (λ n. (n * base + c.args.byte) % 2 ^ 64) is
    ∙ sym (window_sum-snoc window c.args.byte)
