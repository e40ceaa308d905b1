-- What the shelf's count of faults tells of a call on the journal.
use Rattle.std.proofs.Common.{ℕ, Err, refl}
use Rattle.outside.specs.Faults.{HasCause}
use Rattle.outside.specs.declared.trouble.Trouble.{Trouble}
use Rattle.outside.specs.declared.trouble.Trouble.TheVariants.{Fault, Memory}
use Rattle.journal_file.specs.Cause.{create_fault, journal_fault, append_fault, CreateCount, ReadCount, AppendCount}

module _ {S : Type 0} (T : Type 0) (before after : ℕ) where
  pub create_count : (trouble : Trouble) → HasCause {T = S} before after (Err trouble) → CreateCount {T = T} (Err (create_fault trouble)) before after
  create_count Fault cause = cause.fault refl
  create_count Memory cause = cause.quiet

  pub read_count : (trouble : Trouble) → HasCause {T = S} before after (Err trouble) → ReadCount {T = T} (Err (journal_fault trouble)) before after
  read_count Fault cause = cause.fault refl
  read_count Memory cause = cause.quiet

  pub append_count : (trouble : Trouble) → HasCause {T = S} before after (Err trouble) → AppendCount {T = T} (Err (append_fault trouble)) before after
  append_count Fault cause = cause.fault refl
  append_count Memory cause = cause.quiet
