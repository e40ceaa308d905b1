use Rattle.std.proofs.Common.{◌≡◌, cond, Some, None, slice_get, sym, ap, ◌∙◌}
use Rattle.history.specs.Sessions.{is_retained, retained, sessions_under}
use Rattle.legal_history.specs.Recorded.{Recorded, past_of}
use Rattle.legal_history.specs.Rows.{row_at}
use Rattle.legal_history.specs.Kept.{past_in}
use Rattle.legal_history.proofs.NameSteps.{kept_if, retained_first}
use Rattle.legal_history.proofs.ReadLaws.{kept_is}
use Rattle.legal_history.proofs.legal_history.LegalHistory.retained.Goals as goal

pub returns-in-Some : goal.returns-in-Some
returns-in-Some c =
    let h = c.self.inside in
    let past = past_in h in
    let s = c.in-Some.session in
    let row = row_at s h.parts.sessions in
    let name = c.args.name.now in
    let first : slice_get (sessions_under name past) 0 ≡ Some s = sym (c.self.invariant.named.each name) ∙ sym c.get.ensures ∙ c.in-Some.is in
    c.if_retained.ensures
    ∙ ap (λ b. cond b (Some s) None) (kept_is row s past (c.self.invariant.rows.each s))
    ∙ ap (kept_if (λ t. is_retained t past)) (sym first)
    ∙ sym (retained_first h.rules name past c.self.invariant.legal)
    ∙ ap (λ (r : Recorded). retained name (past_of r)) c.self.view_is

pub returns-in-None : goal.returns-in-None
returns-in-None c =
    let h = c.self.inside in
    let past = past_in h in
    let name = c.args.name.now in
    let first : slice_get (sessions_under name past) 0 ≡ None = sym (c.self.invariant.named.each name) ∙ sym c.get.ensures ∙ c.in-None.is in
    ap (kept_if (λ t. is_retained t past)) (sym first)
    ∙ sym (retained_first h.rules name past c.self.invariant.legal)
    ∙ ap (λ (r : Recorded). retained name (past_of r)) c.self.view_is
