use Rattle.std.proofs.Common.{ℕ, ◌≡◌, ◌+◌, ◌*◌, ◌%◌, ◌^◌, ◌∙◌, ap, sym}
use Rattle.std.proofs.Math.Nat.{mod-add-mod, add-mod-mod}
use Rattle.roll_hash.specs.Fingerprint.{base}
use Rattle.roll_hash.proofs.FingerprintLaws.{leaving, window_sum-slide}
use Rattle.roll_hash.proofs.sum.slide.Goals as goal

all_mod : (a b c m : ℕ) → (a % m + (b % m + c) % m) % m ≡ (a + (b + c)) % m
all_mod a b c m =
    ap (λ n. (a % m + n) % m) (mod-add-mod b m c)
    ∙ mod-add-mod a m ((b + c) % m)
    ∙ add-mod-mod a (b + c) m

pub returns : goal.returns
unfolding base leaving
returns c rest long is =
    ap (λ n. (c.args.sum * base % 2 ^ 64 + (n * leaving % 2 ^ 64 + c.from-2.result) % 2 ^ 64) % 2 ^ 64) c.from.ensures
    ∙ ap (λ n. (c.args.sum * base % 2 ^ 64 + (c.args.first * leaving % 2 ^ 64 + n) % 2 ^ 64) % 2 ^ 64) c.from-2.ensures
    ∙ all_mod (c.args.sum * base) (c.args.first * leaving) c.args.byte (2 ^ 64)
    ∙ ap (λ n. (n * base + (c.args.first * leaving + c.args.byte)) % 2 ^ 64) is
    ∙ sym (window_sum-slide c.args.first c.args.byte rest long)
