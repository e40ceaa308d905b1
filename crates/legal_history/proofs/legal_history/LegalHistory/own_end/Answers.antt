use Rattle.std.proofs.Common.{arith}
use Rattle.legal_history.specs.Kept.{past_in}
use Rattle.legal_history.proofs.OwnSmall.{own_end_small}
use Rattle.legal_history.proofs.legal_history.LegalHistory.own_end.Goals as goal

pub overflow_cast-result : goal.overflow_cast-result
overflow_cast-result c =
    let small = own_end_small c.self.inside.rules c.args.session (past_in c.self.inside) c.self.invariant.legal in
    let used = (c.self.invariant.rows.each c.args.session).used in
    let is = c.own_end.ensures in
    omega (arith, small, used, is)
