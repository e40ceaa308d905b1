-- How counts of faults go on over several calls.
use Rattle.std.proofs.Common.{◌≡◌, ◌∙◌, subst, ℕ, ◌≤◌, Result, Ok, Err, inl, inr, arith}
use Rattle.outside.specs.Faults.{Rose, UnlessFault, HasCause}
use Rattle.outside.specs.declared.trouble.Trouble.{Trouble}
use Rattle.outside.specs.declared.trouble.Trouble.TheVariants.{Fault, Memory}

-- it rose in an earlier call
pub Rose-before : (a b c : ℕ) → Rose a b → b ≤ c → Rose a c
Rose-before a b c (inl rose) later = inl (omega arith)
Rose-before a b c (inr last) later = inr (omega arith)

-- it rose in a later call
pub Rose-after : (a b c : ℕ) → a ≤ b → Rose b c → Rose a c
Rose-after a b c later (inl rose) = inl (omega arith)
Rose-after a b c later (inr last) = inr last

-- a call's cause stands for what began earlier, where the count had not risen
pub HasCause-after : {T : Type 0} (a b c : ℕ) (result : Result T Trouble) → b ≡ a → HasCause b c result → HasCause a c result
HasCause-after a b c result same cause = subst (λ n. HasCause n c result) same cause

-- and for what ends later, where the count rose no more but behind a `Fault`
pub HasCause-before : {T : Type 0} (a b c : ℕ) (result : Result T Trouble) → HasCause a b result → b ≤ c → UnlessFault result (c ≡ b) → HasCause a c result
HasCause-before a b c result cause later same = record {
  later = omega (arith, cause.later);
  fault = λ is. Rose-before a b c (cause.fault is) later;
  quiet = both a b c result cause.quiet same;
}
  where
    both : {T : Type 0} (a b c : ℕ) (result : Result T Trouble) → UnlessFault result (b ≡ a) → UnlessFault result (c ≡ b) → UnlessFault result (c ≡ a)
    both a b c (Ok x) first second = second ∙ first
    both a b c (Err Fault) first second = tt
    both a b c (Err Memory) first second = second ∙ first

-- causes over several calls
pub ruleset causes = (Rose-before, Rose-after, HasCause-before, HasCause-after)
