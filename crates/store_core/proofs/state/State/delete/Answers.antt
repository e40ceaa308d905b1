use Rattle.std.proofs.Common.{lit<, ap, ◌∙◌}
use Rattle.history.specs.Sessions.{retained}
use Rattle.legal_history.specs.Recorded.{Recorded, past_of}
use Rattle.store_core.proofs.AllowLaws.{delete_allowed}
use Rattle.store_core.proofs.state.State.delete.Goals as goal

pub add-requires : goal.add-requires
add-requires g c = (lit< tt, delete_allowed _ _ _ _ _ (c.retained-session.ensures ∙ ap (λ (r : Recorded). retained c.args.name (past_of r)) (c.history.ensures ∙ c.journal.ensures.journal)))
