use Rattle.std.proofs.Common.{ap, ◌∙◌}
use Rattle.history.specs.Sessions.{is_unfinished}
use Rattle.legal_history.specs.Recorded.{Recorded, past_of}
use Rattle.legal_history.specs.Rows.{row_at}
use Rattle.legal_history.specs.Kept.{past_in}
use Rattle.legal_history.proofs.ReadLaws.{open_is}
use Rattle.legal_history.proofs.legal_history.LegalHistory.is_unfinished.Goals as goal

pub returns : goal.returns
returns c =
    let s = c.args.session in
    c.is_unfinished.ensures
    ∙ open_is (row_at s c.self.inside.parts.sessions) s (past_in c.self.inside) (c.self.invariant.rows.each s)
    ∙ ap (λ (r : Recorded). is_unfinished s (past_of r)) c.self.view_is
