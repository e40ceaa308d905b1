use Rattle.std.proofs.Common.{lit<, ap, ◌∙◌}
use Rattle.history.specs.Sessions.{commits_of}
use Rattle.legal_history.specs.Recorded.{Recorded, past_of}
use Rattle.store_core.proofs.AllowLaws.{commit_allowed}
use Rattle.store_core.proofs.state.State.commit.Goals as goal

pub add-requires : goal.add-requires
add-requires g c =
    let id = c.next_manifest-manifest.ensures ∙ ap (λ (r : Recorded). record { session = c.args.session; seq = commits_of c.args.session (past_of r) }) c.journal.ensures.journal in
    (lit< tt, rw (id, c.new.ensures) (commit_allowed _ _ _ _ _ _ _ _ _ _ _ c.requires.author c.requires.waiting c.requires.counts c.requires.uses))
