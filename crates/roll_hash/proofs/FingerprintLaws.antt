-- Laws of the sum of a window.
use Rattle.std.proofs.Common.{◌≡◌, ℕ, suc, ◌+◌, ◌*◌, ◌/◌, ◌%◌, ◌^◌, List, [], ◌∷◌, ◌++◌, length, refl, sym, ap, ◌∙◌, arith, length-append}
use Rattle.std.proofs.Math.Nat.{mod-add-mod, add-mul-mod_self_right, pow-suc, pow-zero}
use Rattle.std.proofs.lemmas.Nat.{mul-mod_first, div-add-mod'}
use Rattle.roll_hash.specs.Fingerprint.{base, weighted_sum, window_sum}

weight-suc : (b y n m p w x : ℕ) → n ≡ m + 1 → p ≡ w * b + x → y * b ^ n + p ≡ (y * b ^ m + w) * b + x
weight-suc b y n m p w x e f =
    let n-is : n ≡ suc m = omega arith in
    rw (n-is, f, pow-suc b m) (omega arith)

-- one byte more at the end
pub weighted_sum-snoc : (xs : List ℕ) (x : ℕ) → weighted_sum (xs ++ x ∷ []) ≡ weighted_sum xs * base + x
unfolding weighted_sum
weighted_sum-snoc [] x = rw pow-zero (omega arith)
weighted_sum-snoc (y ∷ ys) x =
    weight-suc base y (length (ys ++ x ∷ [])) (length ys) (weighted_sum (ys ++ x ∷ [])) (weighted_sum ys) x
    (length-append ys (x ∷ [])) (weighted_sum-snoc ys x)

mod-first : (a b z m : ℕ) → (a % m * b + z) % m ≡ (a * b + z) % m
mod-first a b z m = sym (mod-add-mod (a % m * b) m z) ∙ ap (λ n. (n + z) % m) (mul-mod_first a b m) ∙ mod-add-mod (a * b) m z

pub window_sum-nil : window_sum [] ≡ 0
unfolding window_sum weighted_sum
window_sum-nil = refl

-- the same, modulo 2 ^ 64
pub window_sum-snoc : (xs : List ℕ) (x : ℕ) → window_sum (xs ++ x ∷ []) ≡ (window_sum xs * base + x) % 2 ^ 64
unfolding window_sum
window_sum-snoc xs x = ap (λ n. n % 2 ^ 64) (weighted_sum-snoc xs x) ∙ sym (mod-first (weighted_sum xs) base x (2 ^ 64))

-- a term f * p is cancelled by f * l where p * b + l is 0 modulo m
cancel : (m b p l f w y : ℕ) → (p * b + l) % m ≡ 0 → ((f * p + w) % m * b + (f * l + y)) % m ≡ (w * b + y) % m
cancel m b p l f w y zero =
    let q = (p * b + l) / m in
    let whole : q * m ≡ p * b + l = omega (arith, div-add-mod' (p * b + l) m) in
    let sum : (f * p + w) * b + (f * l + y) ≡ w * b + y + f * q * m = omega (arith, ap (λ n. f * n) whole) in
    mod-first (f * p + w) b (f * l + y) m ∙ ap (λ n. n % m) sum ∙ add-mul-mod_self_right (w * b + y) (f * q) m

-- 2 ^ 64 less base ^ 48 modulo 2 ^ 64
unfoldable pub leaving : ℕ
leaving = 0xEFCFECB6D7E971BF

base-leaving : (base ^ 48 + leaving) % 2 ^ 64 ≡ 0
unfolding base leaving
base-leaving = refl

-- the first of 48 bytes leaves, and another comes
pub window_sum-slide : (first byte : ℕ) (rest : List ℕ) → length rest ≡ 47 → window_sum (rest ++ byte ∷ []) ≡ (window_sum (first ∷ rest) * base + (first * leaving + byte)) % 2 ^ 64
unfolding window_sum weighted_sum
window_sum-slide first byte rest long =
    let power : (base ^ length rest * base + leaving) % 2 ^ 64 ≡ 0 =
    ap (λ n. (base ^ n * base + leaving) % 2 ^ 64) long ∙ ap (λ n. (n + leaving) % 2 ^ 64) (sym (pow-suc base 47)) ∙ base-leaving in
    ap (λ n. n % 2 ^ 64) (weighted_sum-snoc rest byte)
    ∙ sym (cancel (2 ^ 64) base (base ^ length rest) leaving first (weighted_sum rest) byte power)
