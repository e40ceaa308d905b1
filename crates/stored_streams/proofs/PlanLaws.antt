-- Laws of the plans of a history.
use Rattle.std.proofs.Common.{◌≡◌, ℕ, ◌==◌, ◌++◌, ◌≤◌, true, false, List, [], ◌∷◌, length, Option, Some, None, refl, ◌∙◌, subst, inl, inr, arith}
use mathlib.Core.List.{map}
use Rattle.std.proofs.lemmas.List.{length-map}
use Rattle.ss_base.specs.declared.ids.ManifestId.{ManifestId}
use Rattle.ss_base.specs.declared.profile.Numbers.{Numbers}
use Rattle.ss_base.specs.Profile.{AreSound}
use Rattle.ss_base.specs.Ids.{same_manifest}
use Rattle.ss_base.proofs.MemberLaws.{find_in, map_in}
use Rattle.ss_base.proofs.IdLaws.{same_manifest-self}
use Rattle.chunk_name.specs.Pieces.{piece}
use Rattle.segment_plan.specs.Plan.{Located}
use Rattle.journal_entry.specs.declared.entry.Entry.{Entry}
use Rattle.journal_entry.specs.declared.entry.Point.{Point}
use Rattle.journal_entry.specs.declared.entry.Point.TheVariants.{Commit}
use Rattle.history.specs.Sessions.{pending_champions}
use Rattle.history.specs.Need.{commits_manifest}
use Rattle.stored_streams.specs.Streams.{Streams, manifest_chunks, manifest_pieces}
use Rattle.stored_streams.specs.Plans.{Planned, plan_of, last_plan, planned_places, located_of, plan_for, next_plan, plans_after, plans_of, end_of, laid_of}
use Rattle.segment_plan.proofs.LieLaws.{places-count}
use Rattle.stored_streams.proofs.PlaceLaws.{Each, IsWithin, places_within}

-- a plan has a place for each chunk, and each lies within a container
pub record IsSound (n : Numbers) (streams : Streams) (p : Planned) : Type 0 where
  pub count : length p.places ≡ length (manifest_chunks n streams p.id)
  pub within : Each (IsWithin n.room) p.places

places_sound : (n : Numbers) (streams : Streams) (id : ManifestId) (plans : List Planned) → Each (IsSound n streams) plans → (found : Option Planned) → plan_of id plans ≡ found → Each (IsWithin n.room) (planned_places id plans)
unfolding planned_places plan_of
places_sound n streams id plans each None is = rw is (λ x h. absurd h)
places_sound n streams id plans each (Some p) is =
    let found = find_in (λ (p : Planned). same_manifest id p.id) plans p is in
    rw is ((each p found.0).within)

-- the places of manifests that were planned lie within containers
pub places_of_within : (n : Numbers) (streams : Streams) (id : ManifestId) (plans : List Planned) → Each (IsSound n streams) plans → Each (IsWithin n.room) (planned_places id plans)
places_of_within n streams id plans each = places_sound n streams id plans each (plan_of id plans) refl

plan_sound : (n : Numbers) (streams : Streams) (past : List Entry) (id : ManifestId) (plans : List Planned) → AreSound n → Each (IsSound n streams) plans → IsSound n streams (next_plan n streams past id plans)
unfolding next_plan plan_for located_of
plan_sound n streams past id plans sound each =
    let ids = pending_champions id.session past in
    let one : ManifestId → Located = λ id. record { pieces = manifest_pieces n streams id; places = planned_places id plans } in
    let located : List Located = map one ids in
    let end = end_of id.session plans in
    let large : 52 ≤ n.room = let room = sound.room in omega (arith, room) in
    record {
      count = places-count (manifest_chunks n streams id) located end n.room ∙ length-map (manifest_chunks n streams id) piece;
      within = places_within (manifest_chunks n streams id) located end n.room large (λ l h.
          let from = map_in one l ids h in
          subst (λ (l : Located). Each (IsWithin n.room) l.places) from.2 (places_of_within n streams from.0 plans each));
    }

after_sound : (n : Numbers) (streams : Streams) (past : List Entry) (point : Point) (plans : List Planned) → AreSound n → Each (IsSound n streams) plans → Each (IsSound n streams) (plans_after n streams past point plans)
unfolding plans_after
after_sound n streams past (Commit id content text chunks bytes fresh fresh_bytes uses) plans sound each = λ p h. elim h [
  | inl is ↦ subst (IsSound n streams) is (plan_sound n streams past id plans sound each)
  | inr older ↦ each p older
]
after_sound n streams past _ plans sound each = each

pub plans_sound : (n : Numbers) (streams : Streams) (past : List Entry) → AreSound n → Each (IsSound n streams) (plans_of n streams past)
unfolding plans_of
plans_sound n streams [] sound = λ p h. absurd h
plans_sound n streams (entry ∷ past) sound = after_sound n streams past entry.point (plans_of n streams past) sound (plans_sound n streams past sound)

-- ---- what an entry changes

-- behind the plan for a manifest its places are those of the plan
pub places_newest : (id : ManifestId) (p : Planned) (plans : List Planned) → p.id ≡ id → planned_places id (p ∷ plans) ≡ p.places
unfolding planned_places plan_of
places_newest id p plans is = let same : same_manifest id p.id ≡ true = subst (λ (m : ManifestId). same_manifest m p.id ≡ true) is (same_manifest-self p.id) in rw same refl

-- an entry that does not commit a manifest leaves its places
pub places_stay : (n : Numbers) (streams : Streams) (past : List Entry) (id : ManifestId) (point : Point) (plans : List Planned) → commits_manifest id point ≡ false → planned_places id (plans_after n streams past point plans) ≡ planned_places id plans
unfolding planned_places plan_of plans_after commits_manifest next_plan plan_for
places_stay n streams past id (Commit other content text chunks bytes fresh fresh_bytes uses) plans differs = rw differs refl
places_stay n streams past id _ plans differs = refl

-- ---- the plans of a session

pub laid_own : (p : Planned) (session : ℕ) (plans : List Planned) → (p.id.session == session) ≡ true → laid_of session (p ∷ plans) ≡ laid_of session plans ++ p.laid
unfolding laid_of
laid_own p session plans own = rw own refl

pub laid_other : (p : Planned) (session : ℕ) (plans : List Planned) → (p.id.session == session) ≡ false → laid_of session (p ∷ plans) ≡ laid_of session plans
unfolding laid_of
laid_other p session plans other = rw other refl

pub end_own : (p : Planned) (session : ℕ) (plans : List Planned) → (p.id.session == session) ≡ true → end_of session (p ∷ plans) ≡ p.end
unfolding end_of last_plan
end_own p session plans own = rw own refl

pub end_other : (p : Planned) (session : ℕ) (plans : List Planned) → (p.id.session == session) ≡ false → end_of session (p ∷ plans) ≡ end_of session plans
unfolding end_of last_plan
end_other p session plans other = rw other refl
