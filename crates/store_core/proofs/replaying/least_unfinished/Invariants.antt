use Rattle.std.proofs.Common.{◌≡◌, ◌<◌, ℕ, false}
use Rattle.history.specs.Sessions.{is_unfinished}
use Rattle.legal_history.specs.Recorded.{past_of}
use Rattle.store_core.proofs.replaying.least_unfinished.Given as goal

abbrev pub invariant-loop-session : goal.invariant-loop-session
invariant-loop-session l = (n : ℕ) → n < l.session → is_unfinished n (past_of l.history) ≡ false
