use Rattle.history_laws.proofs.RecountLaws.{live_held, needed_used}
use Rattle.history_laws.proofs.needs.numbers_tell.Goals as goal

pub returns-clause-live : goal.returns-clause-live
returns-clause-live c = λ past id committed. live_held id past committed

pub returns-clause-needed : goal.returns-clause-needed
returns-clause-needed c = λ past id. needed_used id past
