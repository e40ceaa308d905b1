use Rattle.ss_base.proofs.MemberLaws.{in_Contains}
use Rattle.history_laws.proofs.NameLaws.{retained_once, retained_found}
use Rattle.history.specs.Sessions.{sessions_under}
use Rattle.history_laws.proofs.names.one_retained.Goals as goal

pub returns-clause-once : goal.returns-clause-once
returns-clause-once c = λ rules past name legal. retained_once rules name past legal

pub returns-clause-found : goal.returns-clause-found
returns-clause-found c = λ rules past name session legal reserved kept.
    retained_found rules name session past legal (in_Contains session (sessions_under name past) reserved) kept
