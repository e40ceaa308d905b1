-- What is kept of a committed manifest, and the containers of a session.
use Rattle.std.proofs.Common.{◌≡◌, ℕ, ◌==◌, Bool, Option, true, false, List, [], ◌∷◌, Some, None, refl, sym, ap, ◌∙◌, inl, inr, arith}
use Rattle.std.specs.Option.{option_and_then, unwrap_or, is_some}
use Rattle.std.specs.List.{filter_map}
use Rattle.std.proofs.lemmas.Bool.{false≢true, cases_Bool, eq-eqb, eqb-true, false_from_ne_true}
use Rattle.ss_base.specs.declared.ids.ManifestId.{ManifestId}
use Rattle.ss_base.specs.declared.name.Name.{Name}
use Rattle.ss_base.specs.declared.profile.Numbers.{Numbers}
use Rattle.ss_base.proofs.IdLaws.{same_manifest-true}
use Rattle.ss_base.proofs.MemberLaws.{count_one, count_other}
use Rattle.journal_entry.specs.declared.entry.Entry.{Entry}
use Rattle.journal_entry.specs.declared.entry.Point.{Point}
use Rattle.journal_entry.specs.declared.entry.Point.TheVariants.{Choose, Commit}
use Rattle.history.specs.Need.{commits_manifest}
use Rattle.history.specs.Sessions.{has, newest, commits, commits_of, chooses, settles, champions_chosen, pending, pending_champions, is_pending}
use Rattle.history_laws.proofs.SessionLaws.{has_none, has_cases}
use Rattle.store_core.specs.View.{KeptView, kept, kept_by, all_kept, made}
use Rattle.stored_streams.specs.Streams.{Streams}
use Rattle.stored_streams.specs.Plans.{no_containers, last_plan, end_of, plan_for, next_plan, plans_after, plans_of}
use Rattle.stored_streams.proofs.CommittedLaws.{kept_older}
use Rattle.backed_up_streams.proofs.ContentLaws.{self}

-- ---- the newest entry that does something

record IsNewest (does : Point → Bool) (past : List Entry) : Type 0 where
  entry : Entry
  newest_is : newest does past ≡ Some entry
  does_it : does entry.point ≡ true

newest_there : (does : Point → Bool) (past : List Entry) → has does past ≡ true → IsNewest does past
unfolding newest
newest_there does [] h = absurd (false≢true (sym (has_none does) ∙ h))
newest_there does (entry ∷ past) h = elim (cases_Bool (does entry.point)) [
  | inl here ↦ record { entry = entry; newest_is = rw here refl; does_it = here }
  | inr not ↦
      let older = newest_there does past (elim (has_cases does entry past h) [ inl now ↦ absurd (false≢true (sym not ∙ now)) | inr there ↦ there ]) in
      record { entry = older.entry; newest_is = rw not (older.newest_is); does_it = older.does_it }
]

-- ---- what a Commit keeps

pub record IsKept (id : ManifestId) (past : List Entry) : Type 0 where
  pub view : KeptView
  pub kept_is : kept id past ≡ Some view
  pub same : view.id ≡ id

record KeepsOne (id : ManifestId) (point : Point) : Type 0 where
  view : KeptView
  by_it : kept_by point ≡ Some view
  same : view.id ≡ id

keeps_one : (id : ManifestId) (point : Point) → commits_manifest id point ≡ true → KeepsOne id point
unfolding commits_manifest kept_by
keeps_one id (Commit other content text chunks bytes fresh fresh_bytes uses) does = record {
  view = record { id = other; text = text; content = content; chunks = chunks; uses = uses };
  by_it = refl;
  same = sym (same_manifest-true id other does);
}
keeps_one id _ does = absurd (false≢true does)

pub kept_there : (id : ManifestId) (past : List Entry) → has (commits_manifest id) past ≡ true → IsKept id past
unfolding kept
kept_there id past committed =
    let there = newest_there (commits_manifest id) past committed in
    let one = keeps_one id there.entry.point there.does_it in
    record { view = one.view; kept_is = ap (λ o. option_and_then (λ (e : Entry). kept_by e.point) o) there.newest_is ∙ one.by_it; same = one.same }

-- of a list of committed manifests
pub all_kept-first : (id : ManifestId) (ids : List ManifestId) (past : List Entry) (view : KeptView) → kept id past ≡ Some view → all_kept (id ∷ ids) past ≡ view ∷ all_kept ids past
all_kept-first id ids past view is = rw is refl

-- ---- behind a Choose

module _ (author session : ℕ) (hooks : List Name) (ids : List ManifestId) (past : List Entry) where
  abbrev choice : Entry
  choice = made author (Choose session hooks ids)

  kept_behind : (id : ManifestId) → kept id (choice ∷ past) ≡ kept id past
  unfolding commits_manifest
  kept_behind id = kept_older id choice past refl

  pub all_kept_behind : (wanted : List ManifestId) → all_kept wanted (choice ∷ past) ≡ all_kept wanted past
  all_kept_behind wanted = ap (λ (f : ManifestId → Option KeptView). filter_map f wanted) (λ i id. kept_behind id i)

  pending_behind : pending session (choice ∷ past) ≡ Some ids
  unfolding pending newest settles chooses champions_chosen
  pending_behind = rw (self session) refl

  pub champions_behind : pending_champions session (choice ∷ past) ≡ ids
  unfolding pending_champions
  champions_behind = ap (λ o. unwrap_or o []) pending_behind

  pub waits_behind : is_pending session (choice ∷ past) ≡ true
  unfolding is_pending
  waits_behind = ap is_some pending_behind

  pub count_behind : commits_of session (choice ∷ past) ≡ commits_of session past
  unfolding commits_of commits
  count_behind = refl

-- ---- the containers of a session

other_session : (session other : ℕ) → (session == other) ≡ false → (other == session) ≡ false
other_session session other differ = false_from_ne_true _ (λ same. false≢true (sym differ ∙ eq-eqb session other (sym (eqb-true other session same))))

after_entry : (n : Numbers) (streams : Streams) (session author : ℕ) (point : Point) (past : List Entry) → commits_of session (made author point ∷ past) ≡ 0
    → (commits_of session past ≡ 0 → last_plan session (plans_of n streams past) ≡ None) → last_plan session (plans_after n streams past point (plans_of n streams past)) ≡ None
unfolding last_plan plans_after next_plan plan_for commits commits_of
after_entry n streams session author (Commit id content text chunks bytes fresh fresh_bytes uses) past none older = elim (cases_Bool (session == id.session)) [
  | inl own ↦
      let one = count_one (λ (x : Entry). commits session x.point) (made author (Commit id content text chunks bytes fresh fresh_bytes uses)) past own in
      absurd (omega (arith, one, none))
  | inr other ↦
      let same = count_other (λ (x : Entry). commits session x.point) (made author (Commit id content text chunks bytes fresh fresh_bytes uses)) past other in
      rw (other_session session id.session other) (older (sym same ∙ none))
]
after_entry n streams session author _ past none older = older none

-- without commits there are none
none_planned : (n : Numbers) (streams : Streams) (session : ℕ) (past : List Entry) → commits_of session past ≡ 0 → last_plan session (plans_of n streams past) ≡ None
unfolding last_plan plans_of
none_planned n streams session [] none = refl
none_planned n streams session (entry ∷ past) none = after_entry n streams session entry.author entry.point past none (λ older. none_planned n streams session past older)

pub end_at_first : (n : Numbers) (streams : Streams) (session : ℕ) (past : List Entry) → commits_of session past ≡ 0 → end_of session (plans_of n streams past) ≡ no_containers session
unfolding end_of
end_at_first n streams session past none = rw (none_planned n streams session past none) refl
