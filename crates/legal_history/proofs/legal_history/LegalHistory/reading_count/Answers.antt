use Rattle.std.proofs.Common.{arith}
use Rattle.legal_history.proofs.KeptLaws.{few_readings}
use Rattle.legal_history.proofs.legal_history.LegalHistory.reading_count.Goals as goal

pub overflow_cast-result : goal.overflow_cast-result
overflow_cast-result c = let few = few_readings c.self.inside c.self.invariant in let is = c.len.ensures in omega (arith, few, is)
