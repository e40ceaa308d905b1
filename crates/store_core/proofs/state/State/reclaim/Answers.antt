use Rattle.std.proofs.Common.{lit<, ap, ◌∙◌, take}
use Rattle.history.specs.Need.{erasable}
use Rattle.legal_history.specs.Recorded.{Recorded, past_of}
use Rattle.store_core.proofs.AllowLaws.{reclaim_allowed}
use Rattle.store_core.proofs.state.State.reclaim.Goals as goal

pub add-requires : goal.add-requires
add-requires g c = (lit< tt, reclaim_allowed _ _ _ _ (c.new.ensures ∙ c.in-Ok.ensures ∙ ap (λ (r : Recorded). take 16 (erasable (past_of r))) c.journal.ensures.journal))
