use Rattle.std.proofs.Common.{length, ap, ◌∙◌, arith}
use Rattle.history.specs.declared.rules.Rules.{Rules}
use Rattle.history.specs.Sessions.{commits_of}
use Rattle.legal_history.specs.Recorded.{Recorded, past_of}
use Rattle.store_core.proofs.AllowLaws.{commits_short, commits_are}
use Rattle.store_core.proofs.journal.Journal.next_manifest.Goals as goal

pub overflow_cast-result : goal.overflow_cast-result
overflow_cast-result g c =
    let short = commits_short _ c.args.session _ c.entries-entries.ensures.legal in
    let same = ap length c.commits.ensures in
    let most = c.most_entries-most.ensures.most in
    let below = c.most_entries-most.ensures.fits in
    let limit = ap (λ (r : Rules). r.limits.entries) c.rules-rules.ensures in
    omega (arith, short, same, most, below, limit)

pub returns : goal.returns
returns g c = ap (λ n. record { session = c.args.session; seq = n }) (ap length c.commits.ensures ∙ commits_are _ _ ∙ ap (λ (r : Recorded). commits_of c.args.session (past_of r)) c.self.view_is)
