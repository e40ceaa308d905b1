use Rattle.std.proofs.Common.{refl, arith}
use Rattle.legal_history.proofs.KeptLaws.{kept_first}
use Rattle.legal_history.proofs.legal_history.LegalHistory.new.Goals as goal

pub invariant_of-result : goal.invariant_of-result
invariant_of-result c = kept_first _ c.new.ensures.items c.new-2.ensures.sessions c.new-2.ensures.readings c.new-2.ensures.names refl (omega arith) (let len = c.new.ensures.len in omega (arith, len))
