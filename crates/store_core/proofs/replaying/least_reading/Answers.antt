use Rattle.std.proofs.Common.{inl, inr, arith}
use Rattle.legal_history.specs.Recorded.{past_of}
use Rattle.store_core.proofs.ReplayLaws.{below_or, not_looked}
use Rattle.store_core.proofs.replaying.least_reading.Goals as goal

pub returns-clause-none : goal.returns-clause-none
returns-clause-none c = λ n. elim (below_or n c.loop-reader.reader) [
  | inl below ↦ c.loop-reader.invariant n below
  | inr above ↦
      let count = c.reading_count-reader-end.ensures in
      let ended = c.loop-reader-test.false in
      not_looked c.args.history.now.rules n (past_of c.args.history.now) c.entries-entries.ensures.legal (omega (arith, above, count, ended))
]
