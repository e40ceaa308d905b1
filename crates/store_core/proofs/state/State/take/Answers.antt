use Rattle.std.proofs.Common.{sym, ◌∙◌}
use Rattle.store_core.proofs.ReplayLaws.{refuses, overfills, is_over}
use Rattle.store_core.proofs.AllowLaws.{follows}
use Rattle.store_core.proofs.state.State.take.Goals as goal

pub returns-then-not-allowed : goal.returns-then-not-allowed
returns-then-not-allowed g c = refuses _ c.args.entry _ (sym c.in_ok-allowed.ensures ∙ c.if-not-allowed.true)

pub returns-in-Ok : goal.returns-in-Ok
returns-in-Ok g c = (follows _ c.args.entry _ (sym c.in_ok-allowed.ensures ∙ c.if-not-allowed.false) c.in-Ok.ensures.fits, c.in-Ok.ensures)

pub returns-in-Err-Full : goal.returns-in-Err-Full
returns-in-Err-Full g c =
    overfills _ c.args.entry _ (is_over c.args.self.now c.add.new.self c.args.entry c.in-Err-Full.field-0 c.in-Err-Full.ensures c.in-Err-Full.field-0-is)
