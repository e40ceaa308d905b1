use Rattle.std.proofs.Common.{◌≡◌, ◌<◌, ℕ, false}
use Rattle.history.specs.Sessions.{is_reading}
use Rattle.legal_history.specs.Recorded.{past_of}
use Rattle.store_core.proofs.replaying.least_reading.Given as goal

abbrev pub invariant-loop-reader : goal.invariant-loop-reader
invariant-loop-reader l = (n : ℕ) → n < l.reader → is_reading n (past_of l.history) ≡ false
