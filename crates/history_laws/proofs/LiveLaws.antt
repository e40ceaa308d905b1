-- The champions of a pending choice are live.
use Rattle.std.proofs.Common.{◌≡◌, ℕ, true, List, [], ◌∷◌, sym, subst, inl, inr}
use Rattle.std.proofs.lemmas.Bool.{and_from, or_left, or_right, cases_Bool}
use Rattle.ss_base.specs.declared.ids.ManifestId.{ManifestId}
use Rattle.ss_base.specs.Ids.{has_manifest}
use Rattle.journal_entry.specs.declared.entry.Entry.{Entry}
use Rattle.history.specs.declared.rules.Rules.{Rules}
use Rattle.history.specs.Sessions.{settles, has, pending_champions}
use Rattle.history.specs.Need.{is_champion, is_being_read, is_pinned, commits_manifest, is_live}
use Rattle.history.specs.Legal.{is_legal}
use Rattle.history_laws.proofs.Allowed.{step}
use Rattle.history_laws.proofs.SessionLaws.{has_older}
use Rattle.history_laws.proofs.StandingLaws.{stands_committed, what_stands}
use Rattle.history_laws.proofs.NeedLaws.{StandsSomewhere, listed_manifest, chosen_somewhere, pending_one, pending_same, pending_none, champion_from}

pub somewhere_committed : (rules : Rules) (id : ManifestId) (past : List Entry) → is_legal rules past ≡ true → StandsSomewhere id past → has (commits_manifest id) past ≡ true
somewhere_committed rules id past legal at =
    subst (λ (m : ManifestId). has (commits_manifest m) past ≡ true) (sym at.same)
    (stands_committed at.stands past (what_stands rules at.bound at.hook past legal at.stands at.listed))

pub pending_committed : (rules : Rules) (t : ℕ) (id : ManifestId) (past : List Entry) → is_legal rules past ≡ true → has_manifest id (pending_champions t past) ≡ true → has (commits_manifest id) past ≡ true
pending_committed rules t id [] legal h = absurd (rw (pending_none t) at (listed_manifest id (pending_champions t []) h))
pending_committed rules t id (entry ∷ past) legal h =
    let now = step rules entry past legal in
    has_older (commits_manifest id) entry past (elim (cases_Bool (settles t entry.point)) [
      | inl here ↦ somewhere_committed rules id past now.legal (chosen_somewhere rules past entry.author id entry.point now.allowed (subst (λ (ids : List ManifestId). has_manifest id ids ≡ true) (pending_one t entry past here) h))
      | inr other ↦ pending_committed rules t id past now.legal (subst (λ (ids : List ManifestId). has_manifest id ids ≡ true) (pending_same t entry past other) h)
    ])

-- a champion of a session's pending choice is committed, and pinned
pub pending_live : (rules : Rules) (t : ℕ) (id : ManifestId) (past : List Entry) → is_legal rules past ≡ true → has_manifest id (pending_champions t past) ≡ true → is_live id past ≡ true
unfolding is_live is_pinned
pending_live rules t id past legal h =
    let pinned = or_left (is_champion id past) (is_being_read id.session past) (champion_from rules t id past legal h) in
    and_from _ _ (pending_committed rules t id past legal h) (or_right _ _ (or_right _ _ pinned))
