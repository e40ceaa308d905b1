use Rattle.std.proofs.Common.{◌≡◌, true, ◌∷◌, ◌++◌, [], Some, sym, ap, ◌∙◌, subst}
use Rattle.journal_entry.specs.declared.entry.Entry.{Entry}
use Rattle.journal_entry.specs.declared.entry.Point.TheVariants.{Begin, Abort}
use Rattle.history.specs.Legal.{may_follow}
use Rattle.history_laws.proofs.StandingLaws.{made}
use Rattle.legal_history.specs.Recorded.{Recorded, past_of}
use Rattle.legal_history.proofs.FirstEntries.{begin_follows, abort_follows}
use Rattle.legal_history.proofs.tests.given_up.Goals as goal

pub push-requires : goal.push-requires
push-requires c = subst (λ (r : Recorded). may_follow r.rules (made 0 (Begin c.args.name (Some 0))) (past_of r) ≡ true) (sym c.new-history.ensures) (begin_follows c.args.name)

pub push-requires-2 : goal.push-requires-2
push-requires-2 c =
    let first : Entry = made 0 (Begin c.args.name (Some 0)) in
    subst (λ (r : Recorded). may_follow r.rules (made 0 (Abort 0 0 0)) (past_of r) ≡ true)
    (sym (c.in_ok-push.ensures.ok ∙ ap (λ (r : Recorded). record r { entries = r.entries ++ first ∷ [] }) c.new-history.ensures)) (abort_follows c.args.name)
