use Rattle.std.proofs.Common.{lit<, ap, ◌∙◌}
use Rattle.history.specs.Legal.{reply_to_look}
use Rattle.legal_history.specs.Recorded.{Recorded, past_of}
use Rattle.store_core.proofs.AllowLaws.{look_allowed}
use Rattle.store_core.proofs.state.State.look.Goals as goal

pub add-requires : goal.add-requires
add-requires g c = (lit< tt, look_allowed _ _ _ _ _ (c.reply_to_look-seen.ensures ∙ ap (λ (r : Recorded). reply_to_look c.args.name (past_of r)) c.journal.ensures.journal))
