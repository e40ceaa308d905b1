use Rattle.std.proofs.Common.{◌≡◌, reverse, sym, ap, ◌∙◌, slice_get}
use Rattle.std.specs.Option.{option_and_then}
use Rattle.history.specs.Sessions.{looks}
use Rattle.history_laws.specs.EntryNumbers.{numbers_of}
use Rattle.legal_history.specs.Recorded.{Recorded, past_of}
use Rattle.legal_history.specs.Rows.{reading_at}
use Rattle.legal_history.proofs.ReadLaws.{newest_kept}
use Rattle.legal_history.proofs.legal_history.LegalHistory.look_of.Goals as goal

pub returns : goal.returns
returns c =
    let n = c.args.reader in
    let entries = c.args.self.now.entries in
    let numbers = (reading_at n c.self.inside.parts.readings).looks in
    let is : numbers ≡ numbers_of (looks n) (reverse entries) = (c.self.invariant.readers.each n).begun ∙ ap (λ (r : Recorded). numbers_of (looks n) (past_of r)) c.self.view_is in
    c.entry.ensures
    ∙ ap (λ o. option_and_then (slice_get entries) o) c.look.ensures
    ∙ sym (newest_kept (looks n) entries numbers is)
