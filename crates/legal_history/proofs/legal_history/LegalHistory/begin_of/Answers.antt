use Rattle.std.proofs.Common.{◌≡◌, reverse, sym, ap, ◌∙◌, slice_get}
use Rattle.std.specs.Option.{option_and_then}
use Rattle.history.specs.Sessions.{begins}
use Rattle.history_laws.specs.EntryNumbers.{numbers_of}
use Rattle.legal_history.specs.Recorded.{Recorded, past_of}
use Rattle.legal_history.specs.Rows.{row_at}
use Rattle.legal_history.proofs.ReadLaws.{newest_kept}
use Rattle.legal_history.proofs.legal_history.LegalHistory.begin_of.Goals as goal

pub returns : goal.returns
returns c =
    let n = c.args.session in
    let entries = c.args.self.now.entries in
    let numbers = (row_at n c.self.inside.parts.sessions).begins in
    let is : numbers ≡ numbers_of (begins n) (reverse entries) = (c.self.invariant.rows.each n).begun ∙ ap (λ (r : Recorded). numbers_of (begins n) (past_of r)) c.self.view_is in
    c.entry.ensures
    ∙ ap (λ o. option_and_then (slice_get entries) o) c.begin.ensures
    ∙ sym (newest_kept (begins n) entries numbers is)
