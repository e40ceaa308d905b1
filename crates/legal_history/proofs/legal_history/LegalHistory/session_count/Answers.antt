use Rattle.std.proofs.Common.{arith}
use Rattle.legal_history.proofs.KeptLaws.{few_sessions}
use Rattle.legal_history.proofs.legal_history.LegalHistory.session_count.Goals as goal

pub overflow_cast-result : goal.overflow_cast-result
overflow_cast-result c = let few = few_sessions c.self.inside c.self.invariant in let is = c.len.ensures in omega (arith, few, is)
