-- How an object of the outside counts its faults (this project's own).
use Rattle.std.specs.Prelude.{◌≡◌, ℕ, ◌-◌, ◌^◌, ◌<◌, ◌≤◌, ◌⊎◌, IsErrOf, Result, Ok, Err}
use Rattle.outside.specs.declared.trouble.Trouble.{Trouble}
use Rattle.outside.specs.declared.trouble.Trouble.TheVariants.{Fault, Memory}

-- the count is higher than it was; one that stands at its last value, 2^64 - 1, counts as risen
abbrev pub Rose : ℕ → ℕ → Type 0
Rose before after = (before < after) ⊎ (2 ^ 64 - 1 ≤ after)

-- where the call answered no `Fault`, P holds
abbrev pub UnlessFault : {T : Type 0} → Result T Trouble → Type 0 → Type 0
UnlessFault (Ok x) P = P
UnlessFault (Err Fault) P = Unit {0}
UnlessFault (Err Memory) P = P

-- What each call says of its object's count: it never falls, `Fault` is answered only where it rose in this call, and
-- it rises only where `Fault` is answered, so no fault is swallowed.
pub record HasCause {T : Type 0} (before after : ℕ) (result : Result T Trouble) : Type 0 where
  pub later : before ≤ after
  pub fault : IsErrOf result Fault → Rose before after
  pub quiet : UnlessFault result (after ≡ before)
