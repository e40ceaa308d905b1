use Rattle.std.proofs.Common.{inl, inr, arith}
use Rattle.legal_history.specs.Recorded.{past_of}
use Rattle.store_core.proofs.ReplayLaws.{below_or, not_begun}
use Rattle.store_core.proofs.replaying.least_unfinished.Goals as goal

pub returns-clause-none : goal.returns-clause-none
returns-clause-none c = λ n. elim (below_or n c.loop-session.session) [
  | inl below ↦ c.loop-session.invariant n below
  | inr above ↦
      let count = c.session_count-session-end.ensures in
      let ended = c.loop-session-test.false in
      not_begun c.args.history.now.rules n (past_of c.args.history.now) c.entries-entries.ensures.legal (omega (arith, above, count, ended))
]
