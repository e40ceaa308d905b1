use Rattle.history_laws.proofs.BegunLaws.{begun_once, looked_once}
use Rattle.history_laws.proofs.sessions.begun_once.Goals as goal

pub returns-clause-session : goal.returns-clause-session
returns-clause-session c = λ rules past session legal. begun_once rules session past legal

pub returns-clause-reading : goal.returns-clause-reading
returns-clause-reading c = λ rules past reader legal. looked_once rules reader past legal
