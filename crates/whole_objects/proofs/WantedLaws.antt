-- What live manifests want of containers: their places lie in containers that are laid out, and that are needed.
use Rattle.std.proofs.Common.{◌≡◌, ℕ, ◌<◌, true, false, eqb, List, [], ◌∷◌, length, Option, Some, None, refl, sym, ◌∙◌, subst, inl, inr, arith, eqb-true}
use mathlib.Core.List.{map}
use Rattle.std.specs.List.{All, Contains}
use Rattle.std.proofs.lemmas.Bool.{false≢true, cases_Bool, and_parts, and_from, or_right, eq-eqb}
use Rattle.std.proofs.lemmas.List.{length-map}
use Rattle.std.proofs.lemmas.List.Elements.{All-tail}
use Rattle.ss_base.specs.declared.ids.ContainerId.{ContainerId}
use Rattle.ss_base.specs.declared.ids.ManifestId.{ManifestId}
use Rattle.ss_base.specs.declared.ids.Place.{Place}
use Rattle.ss_base.specs.declared.name.Name.{Name}
use Rattle.ss_base.specs.declared.profile.Numbers.{Numbers}
use Rattle.ss_base.specs.Ids.{same_manifest, same_container, has_container}
use Rattle.ss_base.specs.Profile.{AreSound}
use Rattle.ss_base.proofs.MemberLaws.{In, in_any, find_in, map_in, in_Contains, All-from_in}
use Rattle.ss_base.proofs.IdLaws.{same_manifest-self, same_manifest-true, same_container-self}
use Rattle.chunk_name.specs.Pieces.{piece, pieces}
use Rattle.container_file.specs.declared.container_end.ContainerEnd.{ContainerEnd}
use Rattle.container_file.specs.Layout.{end_after}
use Rattle.container_file.proofs.LayoutLaws.{end_session, end_bounds}
use Rattle.segment_plan.specs.Located.{HasPlaces}
use Rattle.segment_plan.specs.Plan.{Located, pieces_of, fresh_of, places_against, laid_against, end_against}
use Rattle.segment_plan.proofs.LieLaws.{Contains-from_in, all-lie, places-count}
use Rattle.segment_plan.proofs.UseLaws.{may-use}
use Rattle.journal_entry.specs.declared.entry.Entry.{Entry}
use Rattle.journal_entry.specs.declared.entry.Point.{Point}
use Rattle.journal_entry.specs.declared.entry.Point.TheVariants.{Commit}
use Rattle.journal_entry.specs.Bounds.{IsEntry}
use Rattle.history.specs.declared.rules.Rules.{Rules}
use Rattle.history.specs.Sessions.{has, is_unfinished, pending_champions}
use Rattle.history.specs.Need.{commits_manifest, is_live, uses_live, is_needed}
use Rattle.history.specs.Legal.{lists_use, is_legal}
use Rattle.history_laws.proofs.Allowed.{step}
use Rattle.history_laws.proofs.SessionLaws.{has_cases, has_now, has_older, has_none, has_weaker}
use Rattle.history_laws.proofs.NeedLaws.{manifest_listed}
use Rattle.history_laws.proofs.LiveLaws.{pending_committed}
use Rattle.store_core.specs.View.{made}
use Rattle.stored_streams.specs.Streams.{Streams, manifest_chunks, manifest_pieces}
use Rattle.stored_streams.specs.Plans.{Planned, plan_of, last_plan, planned_places, end_of, located_of, plan_for, next_plan, plans_after, plans_of}
use Rattle.stored_streams.specs.OfStreams.{ContentOf, StoredOf, EachEntry}
use Rattle.stored_streams.proofs.ListLaws.{in_map}
use Rattle.stored_streams.proofs.PlaceLaws.{Each}
use Rattle.stored_streams.proofs.PlanLaws.{places_newest, places_stay, end_own, end_other}
use Rattle.stored_streams.proofs.CommittedLaws.{committed_kept}

-- ---- the containers of a session

-- the container is one of its session's
abbrev pub IsLaidOut : List Planned → ContainerId → Type 0
IsLaidOut plans id = id.ordinal < (end_of id.session plans).containers

-- and stays one behind a segment more
still_laid : (n : Numbers) (streams : Streams) (id : ManifestId) (located : List Located) (plans : List Planned) (container : ContainerId) → IsLaidOut plans container → IsLaidOut (plan_for n streams id located plans ∷ plans) container
unfolding plan_for end_against
still_laid n streams id located plans container below =
    let p = plan_for n streams id located plans in
    elim (cases_Bool (eqb id.session container.session)) [
      | inl own ↦
          let more = (end_bounds (end_of id.session plans) n.room (fresh_of (manifest_chunks n streams id) (pieces_of located))).0 in
          let before : container.ordinal < (end_of id.session plans).containers = subst (λ s. container.ordinal < (end_of s plans).containers) (sym (eqb-true _ _ own)) below in
          let now : container.ordinal < p.end.containers = omega (arith, before, more) in
          subst (λ (e : ContainerEnd). container.ordinal < e.containers) (sym (end_own p container.session plans own)) now
      | inr other ↦ subst (λ (e : ContainerEnd). container.ordinal < e.containers) (sym (end_other p container.session plans other)) below
    ]

-- ---- places in containers that are laid out

abbrev AreLaidOut : List Planned → List Place → Type 0
AreLaidOut plans places = Each (λ (q : Place). IsLaidOut plans q.container) places

-- a plan ends with containers of its session, and all its places lie in containers that are laid out
record IsLaid (plans : List Planned) (p : Planned) : Type 0 where
  pub session : p.end.session ≡ p.id.session
  pub places : AreLaidOut plans p.places

-- the containers of a session are its own
own_containers : (session : ℕ) (all plans : List Planned) → Each (IsLaid all) plans → (found : Option Planned) → last_plan session plans ≡ found → (end_of session plans).session ≡ session
unfolding end_of last_plan
own_containers session all plans each None is = rw is refl
own_containers session all plans each (Some p) is =
    let found = find_in (λ (p : Planned). eqb p.id.session session) plans p is in
    rw is ((each p found.0).session ∙ eqb-true _ _ found.1)

places_laid : (id : ManifestId) (all plans : List Planned) → Each (IsLaid all) plans → (found : Option Planned) → plan_of id plans ≡ found → AreLaidOut all (planned_places id plans)
unfolding planned_places plan_of
places_laid id all plans each None is = rw is (λ q h. absurd h)
places_laid id all plans each (Some p) is =
    let found = find_in (λ (p : Planned). same_manifest id p.id) plans p is in
    rw is ((each p found.0).places)

container_listed : (q : Place) (places : List Place) → In q places → Contains (map (λ (p : Place). p.container) places) q.container
container_listed q places h = Contains-from_in q.container (map (λ (p : Place). p.container) places) (in_map (λ (p : Place). p.container) q places h)

-- one plan more, against what lies in containers that are laid out
plan_laid : (n : Numbers) (streams : Streams) (id : ManifestId) (located : List Located) (plans : List Planned) → All HasPlaces located → Each (λ (l : Located). AreLaidOut plans l.places) located → (end_of id.session plans).session ≡ id.session → IsLaid (plan_for n streams id located plans ∷ plans) (plan_for n streams id located plans)
unfolding plan_for end_against laid_against
plan_laid n streams id located plans have old session =
    let p = plan_for n streams id located plans in
    let chunks = manifest_chunks n streams id in
    let end = end_of id.session plans in
    let cs = fresh_of chunks (pieces_of located) in
    let places = places_against chunks located end n.room in
    let lie = all-lie chunks located end n.room have in
    let own : (end_after end n.room cs).session ≡ id.session = end_session end n.room cs ∙ session in
    record {
      session = own;
      places = λ q h. elim (may-use located end n.room cs (pieces chunks) places (places-count chunks located end n.room) lie q.container (container_listed q places h)) [
        | inl mine ↦
            subst (λ (e : ContainerEnd). q.container.ordinal < e.containers)
            (sym (end_own p q.container.session plans (eq-eqb id.session q.container.session (sym (mine.session ∙ own))))) mine.started
        | inr lent ↦
            let m = lent.manifest in
            let from = map_in (λ (p : Place). p.container) q.container m.places (in_Contains q.container (map (λ (p : Place). p.container) m.places) lent.container) in
            let before = old m (in_Contains m located lent.there) from.0 from.1 in
            still_laid n streams id located plans q.container (subst (IsLaidOut plans) from.2 before)
      ];
    }

-- the champions of a choice have a place for each piece
abbrev HaveCounts : Numbers → Streams → List Planned → List ManifestId → Type 0
HaveCounts n streams plans ids = (id : ManifestId) → In id ids → length (planned_places id plans) ≡ length (manifest_pieces n streams id)

next_laid : (n : Numbers) (streams : Streams) (past : List Entry) (id : ManifestId) (plans : List Planned) → HaveCounts n streams plans (pending_champions id.session past) → Each (IsLaid plans) plans → IsLaid (next_plan n streams past id plans ∷ plans) (next_plan n streams past id plans)
unfolding next_plan located_of
next_laid n streams past id plans counts each =
    let ids = pending_champions id.session past in
    let one : ManifestId → Located = λ id. record { pieces = manifest_pieces n streams id; places = planned_places id plans } in
    let located : List Located = map one ids in
    plan_laid n streams id located plans
    (All-from_in HasPlaces located (λ l h. let from = map_in one l ids h in subst HasPlaces from.2 (counts from.0 from.1)))
    (λ l h. let from = map_in one l ids h in subst (λ (l : Located). AreLaidOut plans l.places) from.2 (places_laid from.0 plans plans each (plan_of from.0 plans) refl))
    (own_containers id.session plans plans each (last_plan id.session plans) refl)

plan_kept : (n : Numbers) (streams : Streams) (past : List Entry) (id : ManifestId) (plans : List Planned) (p : Planned) → IsLaid plans p → IsLaid (next_plan n streams past id plans ∷ plans) p
unfolding next_plan
plan_kept n streams past id plans p old = record {
  session = old.session;
  places = λ q h. still_laid n streams id (located_of n streams (pending_champions id.session past) plans) plans q.container (old.places q h);
}

after_laid : (n : Numbers) (streams : Streams) (past : List Entry) (point : Point) (plans : List Planned) → ((session : ℕ) → HaveCounts n streams plans (pending_champions session past)) → Each (IsLaid plans) plans → Each (IsLaid (plans_after n streams past point plans)) (plans_after n streams past point plans)
unfolding plans_after
after_laid n streams past (Commit id content text chunks bytes fresh fresh_bytes uses) plans counts each = λ p h. elim h [
  | inl is ↦ subst (IsLaid (next_plan n streams past id plans ∷ plans)) is (next_laid n streams past id plans (counts id.session) each)
  | inr older ↦ plan_kept n streams past id plans p (each p older)
]
after_laid n streams past _ plans counts each = each

counts_are : (n : Numbers) (streams : Streams) (rules : Rules) (past : List Entry) → AreSound n → is_legal rules past ≡ true → All IsEntry past → EachEntry (ContentOf n streams) past → EachEntry (StoredOf n streams) past → (session : ℕ) → HaveCounts n streams (plans_of n streams past) (pending_champions session past)
unfolding manifest_pieces
counts_are n streams rules past sound legal entries contents stored session id h =
    let committed = pending_committed rules session id past legal (manifest_listed id (pending_champions session past) h) in
    let kept = committed_kept n streams rules past id sound legal entries contents stored committed in
    kept.count ∙ sym (length-map (manifest_chunks n streams id) piece)

all_laid : (n : Numbers) (streams : Streams) (rules : Rules) (past : List Entry) → AreSound n → is_legal rules past ≡ true → All IsEntry past → EachEntry (ContentOf n streams) past → EachEntry (StoredOf n streams) past → Each (IsLaid (plans_of n streams past)) (plans_of n streams past)
unfolding plans_of
all_laid n streams rules [] sound legal entries contents stored = λ p h. absurd h
all_laid n streams rules (entry ∷ past) sound legal entries contents stored =
    let now = step rules entry past legal in
    let others = All-tail IsEntry entry past entries in
    after_laid n streams past entry.point (plans_of n streams past)
    (counts_are n streams rules past sound now.legal others contents.0 stored.0)
    (all_laid n streams rules past sound now.legal others contents.0 stored.0)

-- each place of a manifest lies in a container that is laid out
pub place_laid : (n : Numbers) (streams : Streams) (rules : Rules) (past : List Entry) (id : ManifestId) (q : Place) → AreSound n → is_legal rules past ≡ true → All IsEntry past → EachEntry (ContentOf n streams) past → EachEntry (StoredOf n streams) past → In q (planned_places id (plans_of n streams past)) → IsLaidOut (plans_of n streams past) q.container
place_laid n streams rules past id q sound legal entries contents stored h =
    let plans = plans_of n streams past in
    places_laid id plans plans (all_laid n streams rules past sound legal entries contents stored) (plan_of id plans) refl q h

-- ---- places in containers that are needed

-- a manifest's commit lists the containers of its places
abbrev AreListed : Numbers → Streams → ManifestId → List Entry → Type 0
AreListed n streams id past = Each (λ (q : Place). has (lists_use id q.container) past ≡ true) (planned_places id (plans_of n streams past))

listed_commit : (n : Numbers) (streams : Streams) (author : ℕ) (id : ManifestId) (content text : Name) (chunks bytes fresh fresh_bytes : ℕ) (uses : List ContainerId) (past : List Entry) → StoredOf n streams past (Commit id content text chunks bytes fresh fresh_bytes uses) → AreListed n streams id (made author (Commit id content text chunks bytes fresh fresh_bytes uses) ∷ past)
unfolding lists_use has_container plans_of plans_after next_plan plan_for
listed_commit n streams author id content text chunks bytes fresh fresh_bytes uses past stored =
    let plans = plans_of n streams past in
    let plan = next_plan n streams past id plans in
    let places : planned_places id (plan ∷ plans) ≡ plan.places = places_newest id plan plans refl in
    λ q h.
    let listed = stored.containers.each q.container (container_listed q plan.places (subst (λ (ps : List Place). In q ps) places h)) in
    has_now (lists_use id q.container) (made author (Commit id content text chunks bytes fresh fresh_bytes uses)) past
    (and_from (same_manifest id id) (has_container q.container uses) (same_manifest-self id)
    (in_any (same_container q.container) q.container uses (in_Contains q.container uses listed) (same_container-self q.container)))

listed_now : (n : Numbers) (streams : Streams) (author : ℕ) (point : Point) (past : List Entry) (id : ManifestId) → StoredOf n streams past point → commits_manifest id point ≡ true → AreListed n streams id (made author point ∷ past)
unfolding commits_manifest
listed_now n streams author (Commit other content text chunks bytes fresh fresh_bytes uses) past id stored does =
    subst (λ (m : ManifestId). AreListed n streams m (made author (Commit other content text chunks bytes fresh fresh_bytes uses) ∷ past)) (sym (same_manifest-true id other does))
    (listed_commit n streams author other content text chunks bytes fresh fresh_bytes uses past stored)
listed_now n streams author _ past id stored does = absurd (false≢true does)

listed_before : (n : Numbers) (streams : Streams) (entry : Entry) (past : List Entry) (id : ManifestId) → commits_manifest id entry.point ≡ false → AreListed n streams id past → AreListed n streams id (entry ∷ past)
unfolding plans_of
listed_before n streams entry past id other older =
    let stay : planned_places id (plans_of n streams (entry ∷ past)) ≡ planned_places id (plans_of n streams past) = places_stay n streams past id entry.point (plans_of n streams past) other in
    λ q h. has_older (lists_use id q.container) entry past (older q (subst (λ (ps : List Place). In q ps) stay h))

all_listed : (n : Numbers) (streams : Streams) (past : List Entry) (id : ManifestId) → EachEntry (StoredOf n streams) past → has (commits_manifest id) past ≡ true → AreListed n streams id past
all_listed n streams [] id stored does = absurd (false≢true (sym (has_none (commits_manifest id)) ∙ does))
all_listed n streams (entry ∷ past) id stored does = elim (cases_Bool (commits_manifest id entry.point)) [
  | inl here ↦ listed_now n streams entry.author entry.point past id stored.1 here
  | inr other ↦ elim (has_cases (commits_manifest id) entry past does) [
    | inl here ↦ absurd (false≢true (sym other ∙ here))
    | inr older ↦ listed_before n streams entry past id other (all_listed n streams past id stored.0 older)
  ]
]

used_live : (id : ManifestId) (container : ContainerId) (past : List Entry) (point : Point) → is_live id past ≡ true → lists_use id container point ≡ true → uses_live container past point ≡ true
unfolding lists_use uses_live
used_live id container past (Commit other content text chunks bytes fresh fresh_bytes uses) live lists =
    let parts = and_parts _ _ lists in
    and_from (has_container container uses) (is_live other past) parts.1 (subst (λ (m : ManifestId). is_live m past ≡ true) (same_manifest-true id other parts.0) live)
used_live id container past _ live lists = absurd (false≢true lists)

-- each place of a live manifest lies in a container that is needed
pub place_needed : (n : Numbers) (streams : Streams) (past : List Entry) (id : ManifestId) (q : Place) → EachEntry (StoredOf n streams) past → is_live id past ≡ true → In q (planned_places id (plans_of n streams past)) → is_needed q.container past ≡ true
unfolding is_live is_needed
place_needed n streams past id q stored live h =
    let listed = all_listed n streams past id stored (and_parts _ _ live).0 q h in
    or_right (is_unfinished q.container.session past) (has (uses_live q.container past) past)
    (has_weaker (lists_use id q.container) (uses_live q.container past) past (λ point lists. used_live id q.container past point live lists) listed)
