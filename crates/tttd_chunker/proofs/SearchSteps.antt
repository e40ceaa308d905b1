-- The search from above, where the range grows at its upper end.
use Rattle.std.proofs.Common.{◌≡◌, ℕ, ◌+◌, ◌-◌, ◌<◌, ◌≤◌, Bool, cond, Some, ap, ◌∙◌, arith}
use Rattle.ss_base.specs.Search.{greatest}
use Rattle.ss_base.proofs.SearchLaws.{greatest-step}

-- one position more, which passes or doesn't
pub greatest-next : (p : ℕ → Bool) (low k : ℕ) → 0 < k → low ≤ k → (b : Bool) → p k ≡ b → greatest p low (k + 1 - 1) ≡ cond b (Some k) (greatest p low (k - 1))
greatest-next p low k some from b is =
    let top : k + 1 - 1 ≡ k - 1 + 1 = omega arith in
    let here : k - 1 + 1 ≡ k = omega arith in
    ap (greatest p low) top
    ∙ greatest-step p low (k - 1) (omega arith)
    ∙ ap (λ j. cond (p j) (Some j) (greatest p low (k - 1))) here
    ∙ ap (λ t. cond t (Some k) (greatest p low (k - 1))) is
