use Rattle.std.proofs.Common.{lit<, ap, ◌∙◌}
use Rattle.history.specs.Legal.{reply_to_begin}
use Rattle.legal_history.specs.Recorded.{Recorded, past_of}
use Rattle.store_core.proofs.AllowLaws.{begin_allowed}
use Rattle.store_core.proofs.state.State.begin.Goals as goal

pub add-requires : goal.add-requires
add-requires g c = (lit< tt, begin_allowed _ _ _ _ _ (c.reply_to_begin-session.ensures ∙ ap (λ (r : Recorded). reply_to_begin c.args.name (past_of r)) c.journal.ensures.journal))
