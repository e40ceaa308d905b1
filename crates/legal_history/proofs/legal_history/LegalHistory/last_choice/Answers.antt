use Rattle.std.proofs.Common.{◌≡◌, reverse, sym, ap, ◌∙◌, slice_get}
use Rattle.std.specs.Option.{option_and_then}
use Rattle.history.specs.Sessions.{chooses}
use Rattle.history_laws.specs.EntryNumbers.{numbers_of}
use Rattle.legal_history.specs.Recorded.{Recorded, past_of}
use Rattle.legal_history.specs.Rows.{row_at}
use Rattle.legal_history.proofs.ReadLaws.{newest_kept}
use Rattle.legal_history.proofs.legal_history.LegalHistory.last_choice.Goals as goal

pub returns : goal.returns
returns c =
    let n = c.args.session in
    let entries = c.args.self.now.entries in
    let numbers = (row_at n c.self.inside.parts.sessions).choices in
    let is : numbers ≡ numbers_of (chooses n) (reverse entries) = (c.self.invariant.rows.each n).chosen ∙ ap (λ (r : Recorded). numbers_of (chooses n) (past_of r)) c.self.view_is in
    c.entry.ensures
    ∙ ap (λ o. option_and_then (slice_get entries) o) c.last_choice.ensures
    ∙ sym (newest_kept (chooses n) entries numbers is)
