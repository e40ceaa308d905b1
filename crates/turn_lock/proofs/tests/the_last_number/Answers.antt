use Rattle.std.proofs.Common.{rules, ap}
use Rattle.turn_lock.proofs.Openers.{stays_opener}
use Rattle.turn_lock.proofs.tests.the_last_number.Goals as goal

pub split-first-requires-clause-opener : goal.split-first-requires-clause-opener
split-first-requires-clause-opener g c = (_, ap (λ p. p.next) c.in_ok-turns.ensures.pass)

pub split-second-requires-clause-opener : goal.split-second-requires-clause-opener
split-second-requires-clause-opener g c = stays_opener _ _ _ _ (ap (λ p. p.next) c.in_ok-turns.ensures.pass) c.split-first.ensures.pass
