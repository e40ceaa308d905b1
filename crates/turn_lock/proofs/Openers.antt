-- The opener stays the opener, whether it gave out a number or not.
use Rattle.std.proofs.Common.{◌≡◌, ℕ, suc, Some, ap, ◌∙◌, Result, Ok, Err}
use Rattle.std.specs.Prelude.{MatchResult}
use Rattle.turn_lock.specs.Passes.{PassView}
use Rattle.turn_lock.specs.Steps.{next_number}

pub stays_opener : {A B : Type 0} (r : Result A B) (old new : PassView) (n : ℕ) → old.next ≡ Some n
    → MatchResult r (λ _. new ≡ record old { next = Some (suc (next_number old.next)) }) (λ _. new ≡ old) → (m : ℕ) × (new.next ≡ Some m)
stays_opener (Ok a) old new n is e = (suc (next_number old.next), ap (λ (p : PassView). p.next) e)
stays_opener (Err b) old new n is e = (n, ap (λ (p : PassView). p.next) e ∙ is)
