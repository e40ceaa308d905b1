-- A manifest stands at a hook once, and is committed once.
use Rattle.std.proofs.Common.{◌≡◌, ◌⊎◌, ℕ, ◌<◌, Bool, true, false, not, eqb, List, [], ◌∷◌, length, Option, Some, None, refl, sym, ap, ◌∙◌, subst, inl, inr, arith, eqb-true}
use mathlib.Core.List.{map}
use Rattle.std.proofs.lemmas.Bool.{false≢true, both_ways, false_from_ne_true, eq-eqb}
use Rattle.ss_base.specs.declared.ids.ManifestId.{ManifestId}
use Rattle.ss_base.specs.declared.ids.Standing.{Standing}
use Rattle.ss_base.specs.declared.name.Name.{Name}
use Rattle.ss_base.specs.Ids.{same_manifest, has_name, has_manifest}
use Rattle.ss_base.specs.Standings.{standing_of, chosen_standings, others_standing, promoted, without_session, in_front}
use Rattle.journal_entry.specs.declared.entry.Entry.{Entry}
use Rattle.history.specs.declared.rules.Rules.{Rules}
use Rattle.journal_entry.specs.declared.entry.Point.{Point}
use Rattle.journal_entry.specs.declared.entry.Point.TheVariants.{Choose, Commit, Abort, Delete}
use Rattle.history.specs.Sessions.{has, commits_of, last_hooks}
use Rattle.history.specs.StandingList.{standing_after, standing, champions_for}
use Rattle.history.specs.Need.{commits_manifest}
use Rattle.history.specs.Legal.{is_legal, is_allowed}
use Rattle.history_laws.specs.Stands.{MayStand}
use Rattle.ss_base.proofs.MemberLaws.{In, in_any}
use Rattle.ss_base.proofs.GetLaws.{reverse_cases}
use Rattle.history_laws.proofs.Allowed.{IsStep, step, commit_says, commits_next, choose_says}
use Rattle.history_laws.proofs.SessionLaws.{committed_below}
use Rattle.history_laws.proofs.ChampionLaws.{champions_apart}
use Rattle.ss_base.proofs.IdLaws.{same_manifest-self, same_manifest-true}
use Rattle.ss_base.proofs.ApartLaws.{Apart, apart_filter, apart_take, apart_append, apart_by}
use Rattle.history_laws.proofs.StandingLaws.{IsCommitOf, made, newest, standing_commit, stands_committed, commit_committed, chosen_in, others_in, standing_of_in, what_stands}

abbrev pub same_standing : Standing → Standing → Bool
same_standing a b = same_manifest a.id b.id

-- ---- once

-- one more champion, which stood or did not
apart_more : (id : ManifestId) (ids : List ManifestId) (stood : List Standing) (o : Option Standing) → standing_of id stood ≡ o → Apart same_manifest (id ∷ ids) → Apart same_standing (chosen_standings ids stood) → Apart same_standing (chosen_standings (id ∷ ids) stood)
unfolding chosen_standings
apart_more id ids stood None e distinct rest = rw e rest
apart_more id ids stood (Some x) e distinct rest =
    let same : id ≡ x.id = same_manifest-true _ _ (standing_of_in id x stood e).1 in
    rw e ((λ y h. subst (λ (m : ManifestId). same_manifest m y.id ≡ false) same (distinct.0 y.id (chosen_in y ids stood h).1)), rest)

apart_chosen : (chosen : List ManifestId) (stood : List Standing) → Apart same_manifest chosen → Apart same_standing (chosen_standings chosen stood)
unfolding chosen_standings
apart_chosen [] stood distinct = tt
apart_chosen (id ∷ ids) stood distinct = apart_more id ids stood (standing_of id stood) refl distinct (apart_chosen ids stood distinct.1)

apart_promoted : (chosen : List ManifestId) (stood : List Standing) → Apart same_manifest chosen → Apart same_standing stood → Apart same_standing (promoted chosen stood)
unfolding promoted others_standing has_manifest
apart_promoted chosen stood distinct apart =
    apart_append same_standing (chosen_standings chosen stood) (others_standing chosen stood) (apart_chosen chosen stood distinct)
    (apart_filter same_standing (λ (s : Standing). not (has_manifest s.id chosen)) stood apart)
    (λ x y first second. false_from_ne_true _ (λ same.
    let is : x.id ≡ y.id = same_manifest-true _ _ same in
    let listed = subst (λ (m : ManifestId). In m chosen) is (chosen_in x chosen stood first).1 in
    both_ways _ (others_in y chosen stood second).1 (in_any (same_manifest y.id) y.id chosen listed (same_manifest-self y.id))))

apart_front : (rules : Rules) (bound : ℕ) (id : ManifestId) (past : List Entry) (stood : List Standing) → is_legal rules past ≡ true → id.seq ≡ commits_of id.session past → ((x : Standing) → In x stood → MayStand x past) → Apart same_standing stood → Apart same_standing (in_front bound (newest id past) stood)
unfolding in_front
apart_front rules bound id past stood legal next each apart = apart_take same_standing bound (newest id past ∷ stood) (
  (λ y h. false_from_ne_true _ (λ same.
      let is : id ≡ y.id = same_manifest-true _ _ same in
      let committed = subst (λ (m : ManifestId). has (commits_manifest m) past ≡ true) (sym is) (stands_committed y past (each y h)) in
      let below = committed_below rules id past legal committed in
      absurd (omega (arith, below, next)))),
  apart,
)

pub chosen_apart : (rules : Rules) (past : List Entry) (author s : ℕ) (hooks : List Name) (chosen : List ManifestId) → is_allowed rules past author (Choose s hooks chosen) ≡ true → Apart same_manifest chosen
unfolding champions_for
chosen_apart rules past author s hooks chosen allowed =
    let said = choose_says rules past author s hooks chosen allowed in
    subst (λ (ids : List ManifestId). Apart same_manifest ids) (sym said.greedy) (champions_apart rules.champions (map (λ hook. standing rules.standings hook past) hooks))

apart_after : (rules : Rules) (bound : ℕ) (hook : Name) (author : ℕ) (point : Point) (past : List Entry) (stood : List Standing) → IsStep rules (made author point) past → ((x : Standing) → In x stood → MayStand x past) → Apart same_standing stood → Apart same_standing (standing_after bound hook point past stood)
unfolding standing_after without_session
apart_after rules bound hook author (Commit id content text chunks bytes fresh fresh_bytes uses) past stood now each apart =
    let said = commit_says rules past author id content text chunks bytes fresh fresh_bytes uses now.allowed in
    apart_by same_standing (has_name hook (last_hooks id.session past)) (in_front bound (newest id past) stood) stood (apart_front rules bound id past stood now.legal said.next each apart) apart
apart_after rules bound hook author (Choose s hooks chosen) past stood now each apart =
    apart_by same_standing (has_name hook hooks) (promoted chosen stood) stood (apart_promoted chosen stood (chosen_apart rules past author s hooks chosen now.allowed) apart) apart
apart_after rules bound hook author (Abort s containers texts) past stood now each apart = apart_filter same_standing (λ (x : Standing). not (eqb x.id.session s)) stood apart
apart_after rules bound hook author (Delete name (Some s)) past stood now each apart = apart_filter same_standing (λ (x : Standing). not (eqb x.id.session s)) stood apart
apart_after rules bound hook author (Delete name None) past stood now each apart = apart
apart_after rules bound hook author point past stood now each apart = apart

pub stands_once : (rules : Rules) (bound : ℕ) (hook : Name) (past : List Entry) → is_legal rules past ≡ true → Apart same_standing (standing bound hook past)
unfolding standing
stands_once rules bound hook [] legal = tt
stands_once rules bound hook (entry ∷ past) legal =
    let now = step rules entry past legal in
    apart_after rules bound hook entry.author entry.point past (standing bound hook past) now (what_stands rules bound hook past now.legal) (stands_once rules bound hook past now.legal)

-- ---- stamps

commit_cases : (id : ManifestId) (k : ℕ) (entry : Entry) (past : List Entry) → IsCommitOf id k (entry ∷ past) → IsCommitOf id k past ⊎ ((k ≡ length past) × (commits_manifest id entry.point ≡ true))
commit_cases id k entry past c = elim (reverse_cases c.entry entry past k c.there) [
  | inl older ↦ inl (record { entry = c.entry; there = older; commits = c.commits })
  | inr last ↦ inr (last.0, ap (λ (e : Entry). commits_manifest id e.point) last.1 ∙ c.commits)
]

-- no entry commits what is committed
pub never_twice : (rules : Rules) (id : ManifestId) (entry : Entry) (past : List Entry) → IsStep rules entry past → commits_manifest id entry.point ≡ true → has (commits_manifest id) past ≡ true → ⊥
never_twice rules id entry past now here committed =
    let next : id.seq ≡ commits_of id.session past = (commits_next rules past entry.author id entry.point now.allowed here).1 in
    let below : id.seq < commits_of id.session past = committed_below rules id past now.legal committed in
    absurd (omega (arith, next, below))

committed_once : (rules : Rules) (id : ManifestId) (j k : ℕ) (past : List Entry) → is_legal rules past ≡ true → IsCommitOf id j past → IsCommitOf id k past → j ≡ k
committed_once rules id j k [] legal a b = absurd (let there = a.there in cc)
committed_once rules id j k (entry ∷ past) legal a b =
    let now = step rules entry past legal in
    elim (commit_cases id j entry past a) [
      | inl first ↦ elim (commit_cases id k entry past b) [
        | inl second ↦ committed_once rules id j k past now.legal first second
        | inr last ↦ absurd (never_twice rules id entry past now last.1 (commit_committed id j past first))
      ]
      | inr last ↦ elim (commit_cases id k entry past b) [
        | inl second ↦ absurd (never_twice rules id entry past now last.1 (commit_committed id k past second))
        | inr same ↦ last.0 ∙ sym same.0
      ]
    ]

commits_one : (a b : ManifestId) (point : Point) → commits_manifest a point ≡ true → commits_manifest b point ≡ true → a ≡ b
unfolding commits_manifest
commits_one a b (Commit id content text chunks bytes fresh fresh_bytes uses) first second = same_manifest-true _ _ first ∙ sym (same_manifest-true _ _ second)
commits_one a b _ first second = absurd (false≢true first)

same_commit : (a b : ManifestId) (k : ℕ) (past : List Entry) → IsCommitOf a k past → IsCommitOf b k past → a ≡ b
same_commit a b k past first second =
    let same : second.entry ≡ first.entry = let there = first.there in let here = second.there in cc in
    commits_one a b first.entry.point first.commits (subst (λ (e : Entry). commits_manifest b e.point ≡ true) same second.commits)

same_tests : (p q : Bool) → (p ≡ true → q ≡ true) → (q ≡ true → p ≡ true) → p ≡ q
same_tests true q there back = sym (there refl)
same_tests false true there back = back refl
same_tests false false there back = refl

-- ids of what stands are the same exactly where the stamps are
pub same_stamps : (rules : Rules) (past : List Entry) (a b : Standing) → is_legal rules past ≡ true → MayStand a past → MayStand b past → same_manifest a.id b.id ≡ eqb a.stamp b.stamp
same_stamps rules past a b legal first second =
    let ca = standing_commit a past first in
    let cb = standing_commit b past second in
    same_tests (same_manifest a.id b.id) (eqb a.stamp b.stamp)
    (λ same.
    let is : b.id ≡ a.id = sym (same_manifest-true _ _ same) in
    eq-eqb a.stamp b.stamp (committed_once rules a.id a.stamp b.stamp past legal ca (subst (λ (m : ManifestId). IsCommitOf m b.stamp past) is cb)))
    (λ level.
    let is : a.stamp ≡ b.stamp = eqb-true _ _ level in
    let one : a.id ≡ b.id = same_commit a.id b.id b.stamp past (subst (λ k. IsCommitOf a.id k past) is ca) cb in
    subst (λ (m : ManifestId). same_manifest a.id m ≡ true) one (same_manifest-self a.id))
