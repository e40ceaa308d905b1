use Rattle.std.proofs.Common.{◌≡◌, ℕ, false, length}
use Rattle.pins_counts.specs.Waiting.{awaits, IsQuiet}
use Rattle.pins_counts.proofs.awaiting.pass_quiet.Given as goal

abbrev pub invariant-loop-session : goal.invariant-loop-session
invariant-loop-session l = ((q : ℕ) → awaits l.waiting.sessions q ≡ false → IsQuiet l.kind l.tally q) × (l.waiting.below ≡ l.fn.waiting.below)

abbrev pub decreases-loop-session : goal.decreases-loop-session
decreases-loop-session l = length l.waiting.sessions
