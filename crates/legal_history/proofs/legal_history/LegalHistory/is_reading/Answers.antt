use Rattle.std.proofs.Common.{ap, ◌∙◌}
use Rattle.history.specs.Sessions.{is_reading}
use Rattle.legal_history.specs.Recorded.{Recorded, past_of}
use Rattle.legal_history.specs.Rows.{reading_at}
use Rattle.legal_history.specs.Kept.{past_in}
use Rattle.legal_history.proofs.ReadLaws.{going_on_is}
use Rattle.legal_history.proofs.legal_history.LegalHistory.is_reading.Goals as goal

pub returns : goal.returns
returns c =
    let r = c.args.reader in
    c.is_unfinished.ensures
    ∙ going_on_is (reading_at r c.self.inside.parts.readings) r (past_in c.self.inside) (c.self.invariant.readers.each r)
    ∙ ap (λ (x : Recorded). is_reading r (past_of x)) c.self.view_is
