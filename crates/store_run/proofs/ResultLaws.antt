-- What holds where there is an error.
use Rattle.std.proofs.Common.{◌≡◌, ◌<◌, ℕ, sym, subst, List, [], ◌∷◌, length, refl, arith, Ok, Err}
use Rattle.std.specs.Prelude.{Result, OnOk, OnErr}
use Rattle.store_run.specs.declared.stop.Stop.{Stop}
use Rattle.store_run.specs.declared.stop.Stop.TheVariants.{Memory}
use Rattle.store_run.specs.declared.stop.Halt.{Halt}
use Rattle.store_run.specs.declared.stop.Halt.TheVariants.{Early, Unprinted}
use Rattle.store_run.specs.Halt.{OnEarly, OnUnprinted, CountsSource, CountsSink}

-- what holds holds there
pub on_err : {T E P : Type 0} (r : Result T E) → P → OnErr r P
on_err (Ok x) p = tt
on_err (Err e) p = p

pub on_ok : {T E P : Type 0} (r : Result T E) → P → OnOk r P
on_ok (Ok x) p = p
on_ok (Err e) p = tt

-- what holds holds where a line could not be printed
pub on_unprinted : {T P : Type 0} (r : Result T Halt) → P → OnUnprinted r P
on_unprinted (Ok x) p = tt
on_unprinted (Err (Early why)) p = tt
on_unprinted (Err (Unprinted trouble)) p = p

-- a list without items
pub nothing : (xs : List ℕ) → (0 < length xs → ⊥) → xs ≡ []
nothing [] none = refl
nothing (x ∷ xs) none = absurd (none (omega arith))

-- a fact about the cause gives another
pub on_early_weaker : {T : Type 0} {P Q : Stop → Type 0} (r : Result T Halt) → ((why : Stop) → P why → Q why) → OnEarly r P → OnEarly r Q
on_early_weaker (Ok x) f p = tt
on_early_weaker (Err (Early why)) f p = f why p
on_early_weaker (Err (Unprinted trouble)) f p = tt

-- a fact gives another where a line could not be printed
pub on_unprinted_weaker : {T P Q : Type 0} (r : Result T Halt) → (P → Q) → OnUnprinted r P → OnUnprinted r Q
on_unprinted_weaker (Ok x) f p = tt
on_unprinted_weaker (Err (Early why)) f p = tt
on_unprinted_weaker (Err (Unprinted trouble)) f p = f p

-- where no source was read, its count is as before
pub counts_source-unread : {T : Type 0} (X : Stop → Type 0) (r : Result T Halt) (before after : ℕ) → OnEarly r (λ why. (why ≡ Memory) × X why) → after ≡ before → CountsSource r before after
counts_source-unread X (Ok x) before after early same = same
counts_source-unread X (Err (Early why)) before after early same = subst (λ (w : Stop). CountsSource {T = Unit {0}} (Err (Early w)) before after) (sym early.0) same
counts_source-unread X (Err (Unprinted trouble)) before after early same = same

-- what the sink's count did stands for what began earlier, where it had not risen
pub counts_sink-after : {T : Type 0} (r : Result T Halt) (before mid after : ℕ) → mid ≡ before → CountsSink r mid after → CountsSink r before after
counts_sink-after r before mid after same count = subst (λ n. CountsSink r n after) same count
