use Rattle.legal_history.proofs.NameSteps.{one_named}
use Rattle.legal_history.proofs.names.Names.set.Goals as goal

pub returns-clause-ok : goal.returns-clause-ok
returns-clause-ok c = one_named c.args.self.now.sessions c.insert.new.self c.args.name c.args.session c.in_ok-insert.ensures.updates
