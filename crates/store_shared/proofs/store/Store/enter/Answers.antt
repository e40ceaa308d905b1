use Rattle.store_shared.proofs.SightLaws.{found}
use Rattle.store_shared.proofs.store.Store.enter.Goals as goal

pub returns-clause-turn : goal.returns-clause-turn
returns-clause-turn g c = found g.row.L g.row.M c.args.pass c.enter-inside.result.state c.enter-inside.ensures.base c.enter-inside.ensures.seen c.entries-entries.ensures.legal
