-- What stands at a hook in a legal history.
use Rattle.std.proofs.Common.{◌≡◌, ◌⊎◌, ℕ, Bool, true, false, not, eqb, cond, List, [], ◌∷◌, length, reverse, slice_get, Option, Some, None, refl, subst, inl, inr}
use Rattle.std.specs.Option.{IsSomeAnd}
use Rattle.std.proofs.lemmas.Bool.{not-true}
use Rattle.ss_base.specs.declared.ids.ContainerId.{ContainerId}
use Rattle.ss_base.specs.declared.ids.ManifestId.{ManifestId}
use Rattle.ss_base.specs.declared.ids.Standing.{Standing}
use Rattle.ss_base.specs.declared.name.Name.{Name}
use Rattle.ss_base.specs.Ids.{same_manifest, has_name, has_manifest}
use Rattle.ss_base.specs.Standings.{standing_of, chosen_standings, others_standing, promoted, without_session, in_front}
use Rattle.journal_entry.specs.declared.entry.Entry.{Entry}
use Rattle.history.specs.declared.rules.Rules.{Rules}
use Rattle.journal_entry.specs.declared.entry.Point.{Point}
use Rattle.journal_entry.specs.declared.entry.Point.TheVariants.{Choose, Commit, Abort, Delete}
use Rattle.history.specs.Sessions.{has, aborts, deletes, last_hooks}
use Rattle.history.specs.StandingList.{standing_after, standing}
use Rattle.history.specs.Need.{commits_manifest}
use Rattle.history.specs.Legal.{is_legal}
use Rattle.history_laws.specs.Stands.{MayStand}
use Rattle.ss_base.proofs.MemberLaws.{In, find_in, filter_in, filter_map_in, append_in, take_in, reverse_in}
use Rattle.ss_base.proofs.GetLaws.{get_in, reverse_kept, reverse_last}
use Rattle.history_laws.proofs.Allowed.{IsStep, step, commit_says}
use Rattle.history_laws.proofs.SessionLaws.{has_from, has_not, unfinished_unaborted, unfinished_undeleted}
use Rattle.ss_base.proofs.IdLaws.{same_manifest-self, same_manifest-true}

-- ---- the entry that commits what stands

-- the entry with a number commits the manifest
pub record IsCommitOf (id : ManifestId) (k : ℕ) (past : List Entry) : Type 0 where
  pub entry : Entry
  pub there : slice_get (reverse past) k ≡ Some entry
  pub commits : commits_manifest id entry.point ≡ true

commit_of : (id : ManifestId) (past : List Entry) (k : ℕ) (o : Option Entry) → slice_get (reverse past) k ≡ o → IsSomeAnd o (λ (entry : Entry). commits_manifest id entry.point ≡ true) → IsCommitOf id k past
commit_of id past k None e is = absurd is
commit_of id past k (Some entry) e is = record { entry = entry; there = e; commits = is }

to_some : (id : ManifestId) (k : ℕ) (past : List Entry) → IsCommitOf id k past → IsSomeAnd (slice_get (reverse past) k) (λ (entry : Entry). commits_manifest id entry.point ≡ true)
to_some id k past c = rw c.there c.commits

pub standing_commit : (stands : Standing) (past : List Entry) → MayStand stands past → IsCommitOf stands.id stands.stamp past
standing_commit stands past may = commit_of stands.id past stands.stamp (slice_get (reverse past) stands.stamp) refl may.committed

pub commit_committed : (id : ManifestId) (k : ℕ) (past : List Entry) → IsCommitOf id k past → has (commits_manifest id) past ≡ true
commit_committed id k past c = has_from (commits_manifest id) c.entry past (reverse_in c.entry past (get_in c.entry (reverse past) k c.there)) c.commits

pub stands_committed : (stands : Standing) (past : List Entry) → MayStand stands past → has (commits_manifest stands.id) past ≡ true
stands_committed stands past may = commit_committed stands.id stands.stamp past (standing_commit stands past may)

-- ---- one more entry

still_stands : (stands : Standing) (entry : Entry) (past : List Entry) → aborts stands.id.session entry.point ≡ false → deletes stands.id.session entry.point ≡ false → MayStand stands past → MayStand stands (entry ∷ past)
still_stands stands entry past unaborted undeleted may =
    let at = standing_commit stands past may in
    record {
      committed = to_some stands.id stands.stamp (entry ∷ past) (record { entry = at.entry; there = reverse_kept at.entry entry past stands.stamp at.there; commits = at.commits });
      unaborted = has_not (aborts stands.id.session) entry past unaborted may.unaborted;
      undeleted = has_not (deletes stands.id.session) entry past undeleted may.undeleted;
    }

pub standing_of_in : (id : ManifestId) (x : Standing) (stood : List Standing) → standing_of id stood ≡ Some x → In x stood × (same_manifest id x.id ≡ true)
unfolding standing_of
standing_of_in id x stood e = find_in (λ (s : Standing). same_manifest id s.id) stood x e

pub chosen_in : (x : Standing) (chosen : List ManifestId) (stood : List Standing) → In x (chosen_standings chosen stood) → In x stood × In x.id chosen
unfolding chosen_standings
chosen_in x chosen stood h =
    let found = filter_map_in (λ id. standing_of id stood) x chosen h in
    let at = standing_of_in found.0 x stood found.2 in
    (at.0, subst (λ (m : ManifestId). In m chosen) (same_manifest-true _ _ at.1) found.1)

pub others_in : (x : Standing) (chosen : List ManifestId) (stood : List Standing) → In x (others_standing chosen stood) → In x stood × (has_manifest x.id chosen ≡ false)
unfolding others_standing
others_in x chosen stood h =
    let parts = filter_in (λ (s : Standing). not (has_manifest s.id chosen)) x stood h in
    (parts.0, not-true _ parts.1)

pub promoted_in : (x : Standing) (chosen : List ManifestId) (stood : List Standing) → In x (promoted chosen stood) → In x stood
unfolding promoted
promoted_in x chosen stood h = elim (append_in x (chosen_standings chosen stood) (others_standing chosen stood) h) [
  | inl first ↦ (chosen_in x chosen stood first).0
  | inr other ↦ (others_in x chosen stood other).0
]

pub front_in : (x newest : Standing) (bound : ℕ) (stood : List Standing) → In x (in_front bound newest stood) → (newest ≡ x) ⊎ In x stood
unfolding in_front
front_in x newest bound stood h = take_in x bound (newest ∷ stood) h

pub without_in : (x : Standing) (s : ℕ) (stood : List Standing) → In x (without_session s stood) → In x stood × (eqb x.id.session s ≡ false)
unfolding without_session
without_in x s stood h =
    let parts = filter_in (λ (t : Standing). not (eqb t.id.session s)) x stood h in
    (parts.0, not-true _ parts.1)

-- an item of one of two lists
pub chosen_by : (b : Bool) (x : Standing) (xs ys : List Standing) → In x (cond b xs ys) → In x xs ⊎ In x ys
chosen_by true x xs ys h = inl h
chosen_by false x xs ys h = inr h

abbrev pub made : ℕ → Point → Entry
made author point = record { author = author; point = point }

abbrev pub newest : ManifestId → List Entry → Standing
newest id past = record { id = id; stamp = length past }

newest_stands : (rules : Rules) (author : ℕ) (id : ManifestId) (content text : Name) (chunks bytes fresh fresh_bytes : ℕ) (uses : List ContainerId) (past : List Entry) → IsStep rules (made author (Commit id content text chunks bytes fresh fresh_bytes uses)) past → MayStand (newest id past) (made author (Commit id content text chunks bytes fresh fresh_bytes uses) ∷ past)
unfolding aborts deletes commits_manifest
newest_stands rules author id content text chunks bytes fresh fresh_bytes uses past now =
    let said = commit_says rules past author id content text chunks bytes fresh fresh_bytes uses now.allowed in
    let entry : Entry = made author (Commit id content text chunks bytes fresh fresh_bytes uses) in
    record {
      committed = to_some id (length past) (entry ∷ past) (record { entry = entry; there = reverse_last entry past; commits = same_manifest-self id });
      unaborted = has_not (aborts id.session) entry past refl (unfinished_unaborted id.session past said.unfinished);
      undeleted = has_not (deletes id.session) entry past refl (unfinished_undeleted rules id.session past now.legal said.unfinished);
    }

stands_after : (rules : Rules) (bound : ℕ) (hook : Name) (author : ℕ) (point : Point) (past : List Entry) (stood : List Standing) → IsStep rules (made author point) past → ((x : Standing) → In x stood → MayStand x past)
    → (x : Standing) → In x (standing_after bound hook point past stood) → MayStand x (made author point ∷ past)
unfolding standing_after aborts deletes
stands_after rules bound hook author (Commit id content text chunks bytes fresh fresh_bytes uses) past stood now each x h =
    let entry : Entry = made author (Commit id content text chunks bytes fresh fresh_bytes uses) in
    elim (chosen_by (has_name hook (last_hooks id.session past)) x (in_front bound (newest id past) stood) stood h) [
      | inl fronted ↦ elim (front_in x (newest id past) bound stood fronted) [
        | inl same ↦ subst (λ (s : Standing). MayStand s (entry ∷ past)) same (newest_stands rules author id content text chunks bytes fresh fresh_bytes uses past now)
        | inr there ↦ still_stands x entry past refl refl (each x there)
      ]
      | inr there ↦ still_stands x entry past refl refl (each x there)
    ]
stands_after rules bound hook author (Choose s hooks chosen) past stood now each x h =
    let there : In x stood = elim (chosen_by (has_name hook hooks) x (promoted chosen stood) stood h) [
      | inl moved ↦ promoted_in x chosen stood moved
      | inr same ↦ same
    ] in
    still_stands x (made author (Choose s hooks chosen)) past refl refl (each x there)
stands_after rules bound hook author (Abort s containers texts) past stood now each x h =
    let parts = without_in x s stood h in
    still_stands x (made author (Abort s containers texts)) past parts.1 refl (each x parts.0)
stands_after rules bound hook author (Delete name (Some s)) past stood now each x h =
    let parts = without_in x s stood h in
    still_stands x (made author (Delete name (Some s))) past refl parts.1 (each x parts.0)
stands_after rules bound hook author (Delete name None) past stood now each x h = still_stands x (made author (Delete name None)) past refl refl (each x h)
stands_after rules bound hook author point past stood now each x h = still_stands x (made author point) past refl refl (each x h)

pub what_stands : (rules : Rules) (bound : ℕ) (hook : Name) (past : List Entry) → is_legal rules past ≡ true → (x : Standing) → In x (standing bound hook past) → MayStand x past
unfolding standing
what_stands rules bound hook [] legal x h = absurd h
what_stands rules bound hook (entry ∷ past) legal x h =
    let now = step rules entry past legal in
    stands_after rules bound hook entry.author entry.point past (standing bound hook past) now (what_stands rules bound hook past now.legal) x h
