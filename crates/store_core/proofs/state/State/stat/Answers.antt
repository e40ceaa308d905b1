use Rattle.std.proofs.Common.{lit<, ap, ◌∙◌}
use Rattle.history.specs.TotalsOf.{totals}
use Rattle.legal_history.specs.Recorded.{Recorded, past_of}
use Rattle.store_core.proofs.AllowLaws.{stat_allowed}
use Rattle.store_core.proofs.state.State.stat.Goals as goal

pub add-requires : goal.add-requires
add-requires g c = (lit< tt, stat_allowed _ _ _ _ (c.totals-totals.ensures ∙ ap (λ (r : Recorded). totals (past_of r)) c.journal.ensures.journal))
