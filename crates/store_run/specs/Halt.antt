-- What holds where the printing of a stream's lines ended before all were written.
use Rattle.std.specs.Prelude.{◌≡◌, ℕ, Result, Ok, Err}
use Rattle.outside.specs.Faults.{Rose}
use Rattle.outside.specs.declared.trouble.Trouble.TheVariants.{Fault, Memory}
use Rattle.store_run.specs.declared.stop.Stop.{Stop}
use Rattle.store_run.specs.declared.stop.Halt.{Halt}
use Rattle.store_run.specs.declared.stop.Halt.TheVariants.{Early, Unprinted}
use Rattle.store_run.specs.Stop.{SourceCount}

-- where the run ends early, P holds of the cause
abbrev pub OnEarly : {T : Type 0} → Result T Halt → (Stop → Type 0) → Type 0
OnEarly (Ok x) P = Unit {0}
OnEarly (Err (Early why)) P = P why
OnEarly (Err (Unprinted trouble)) P = Unit {0}

-- where a line could not be printed, P holds
abbrev pub OnUnprinted : {T : Type 0} → Result T Halt → Type 0 → Type 0
OnUnprinted (Ok x) P = Unit {0}
OnUnprinted (Err (Early why)) P = Unit {0}
OnUnprinted (Err (Unprinted trouble)) P = P

-- the source's count rose where it is the cause, and is as before elsewhere
abbrev pub CountsSource : {T : Type 0} → Result T Halt → ℕ → ℕ → Type 0
CountsSource (Ok x) before after = after ≡ before
CountsSource (Err (Early why)) before after = SourceCount why before after
CountsSource (Err (Unprinted trouble)) before after = after ≡ before

-- the sink's count rose where a line could not be printed for it, and is as before elsewhere
abbrev pub CountsSink : {T : Type 0} → Result T Halt → ℕ → ℕ → Type 0
CountsSink (Ok x) before after = after ≡ before
CountsSink (Err (Early why)) before after = after ≡ before
CountsSink (Err (Unprinted Fault)) before after = Rose before after
CountsSink (Err (Unprinted Memory)) before after = after ≡ before
