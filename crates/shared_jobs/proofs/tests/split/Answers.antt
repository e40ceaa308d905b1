use Rattle.std.proofs.Common.{ap}
use Rattle.turn_lock.specs.Passes.{PassView}
use Rattle.shared_jobs.proofs.tests.split.Goals as goal

pub returns-in-Ok-clause-opener : goal.returns-in-Ok-clause-opener
returns-in-Ok-clause-opener c = (_, ap (λ (p : PassView). p.next) c.in-Ok.ensures.pass)
