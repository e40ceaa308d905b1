-- Objects that are whole stay so behind entries that commit nothing.
use Rattle.std.proofs.Common.{◌≡◌, ℕ, ◌<◌, true, false, ◌||◌, eqb, List, [], ◌∷◌, ◌++◌, slice_get, refl, sym, ap, ◌∙◌, subst, inl, inr, arith, eqb-true}
use mathlib.Core.List.{map}
use Rattle.std.specs.List.{All}
use Rattle.std.proofs.lemmas.Bool.{both_ways, cases_Bool, and_parts, and_from, or_left}
use Rattle.std.proofs.lemmas.List.Elements.{All-head, All-tail}
use Rattle.ss_base.specs.declared.ids.ContainerId.{ContainerId}
use Rattle.ss_base.specs.declared.ids.ManifestId.{ManifestId}
use Rattle.ss_base.specs.declared.profile.Numbers.{Numbers}
use Rattle.container_file.specs.declared.container_end.ContainerEnd.{ContainerEnd}
use Rattle.container_file.specs.Layout.{laid_in}
use Rattle.container_file.specs.Text.{container_text}
use Rattle.manifest_codec.specs.Text.{manifest_text}
use Rattle.outside.specs.Shelf.{Objects}
use Rattle.journal_entry.specs.declared.entry.Entry.{Entry}
use Rattle.journal_entry.specs.declared.entry.Point.{Point}
use Rattle.journal_entry.specs.declared.entry.Point.TheVariants.{Commit}
use Rattle.history.specs.declared.rules.Rules.{Rules}
use Rattle.history.specs.Sessions.{begins, closes, has, is_unfinished, is_closed, is_retained}
use Rattle.history.specs.Need.{commits_manifest, is_live, is_pinned}
use Rattle.history.specs.Legal.{is_allowed, is_legal}
use Rattle.history_laws.proofs.Allowed.{step, commit_says}
use Rattle.history_laws.proofs.SessionLaws.{has_same, has_older, has_parts, unfinished_is, unfinished_from, committed_begun}
use Rattle.history_laws.proofs.NeedLaws.{never_live}
use Rattle.stored_streams.specs.Streams.{Streams, manifest_pieces}
use Rattle.stored_streams.specs.Plans.{Planned, last_plan, planned_places, end_of, laid_of, plan_for, next_plan, plans_after, plans_of, text_of, containers_of}
use Rattle.stored_streams.specs.Whole.{IsManifestWhole, HasRecords, IsWhole}
use Rattle.stored_streams.proofs.PlanLaws.{end_other}
use Rattle.whole_objects.specs.Keeps.{CommitsNothing}

-- ---- what such an entry leaves as it was

plans_stay : (n : Numbers) (streams : Streams) (past : List Entry) (point : Point) (plans : List Planned) → CommitsNothing point → plans_after n streams past point plans ≡ plans
unfolding plans_after
plans_stay n streams past (Commit id content text chunks bytes fresh fresh_bytes uses) plans none = absurd none
plans_stay n streams past _ plans none = refl

commits_none : (id : ManifestId) (point : Point) → CommitsNothing point → commits_manifest id point ≡ false
unfolding commits_manifest
commits_none id (Commit other content text chunks bytes fresh fresh_bytes uses) none = absurd none
commits_none id _ none = refl

live_unfinished : (id : ManifestId) (past : List Entry) → has (commits_manifest id) past ≡ true → is_unfinished id.session past ≡ true → is_live id past ≡ true
unfolding is_live
live_unfinished id past committed unfinished =
    let cause = is_retained id.session past || is_pinned id past in
    and_from (has (commits_manifest id) past) (is_unfinished id.session past || cause) committed (or_left (is_unfinished id.session past) cause unfinished)

-- a committed manifest that is live was live before
live_before : (rules : Rules) (id : ManifestId) (entry : Entry) (past : List Entry) → is_legal rules (entry ∷ past) ≡ true → has (commits_manifest id) past ≡ true → is_live id (entry ∷ past) ≡ true → is_live id past ≡ true
unfolding is_closed
live_before rules id entry past legal committed live = elim (cases_Bool (is_live id past)) [
  | inl is ↦ is
  | inr dead ↦ elim (cases_Bool (has (closes id.session) past)) [
    | inl closed ↦ absurd (both_ways _ (never_live rules (entry ∷ []) past id legal closed dead) live)
    | inr still ↦ live_unfinished id past committed (unfinished_from id.session past (committed_begun rules id past (step rules entry past legal).legal committed) still)
  ]
]

-- ---- a session with containers began

begun_after : (n : Numbers) (streams : Streams) (rules : Rules) (past : List Entry) (author : ℕ) (point : Point) (session : ℕ) (plans : List Planned) → is_allowed rules past author point ≡ true → (0 < (end_of session plans).containers → has (begins session) past ≡ true) → 0 < (end_of session (plans_after n streams past point plans)).containers → has (begins session) past ≡ true
unfolding plans_after next_plan plan_for
begun_after n streams rules past author (Commit id content text chunks bytes fresh fresh_bytes uses) session plans allowed older some =
    elim (cases_Bool (eqb id.session session)) [
      | inl own ↦
          let said = commit_says rules past author id content text chunks bytes fresh fresh_bytes uses allowed in
          subst (λ s. has (begins s) past ≡ true) (eqb-true _ _ own) (unfinished_is id.session past said.unfinished).0
      | inr other ↦ older (subst (λ (e : ContainerEnd). 0 < e.containers) (end_other (next_plan n streams past id plans) session plans other) some)
    ]
begun_after n streams rules past author _ session plans allowed older some = older some

stored_begun : (n : Numbers) (streams : Streams) (rules : Rules) (past : List Entry) (session : ℕ) → is_legal rules past ≡ true → 0 < (end_of session (plans_of n streams past)).containers → has (begins session) past ≡ true
unfolding plans_of end_of last_plan
stored_begun n streams rules [] session legal some = absurd (omega (arith, some))
stored_begun n streams rules (entry ∷ past) session legal some =
    let now = step rules entry past legal in
    has_older (begins session) entry past
    (begun_after n streams rules past entry.author entry.point session (plans_of n streams past) now.allowed (stored_begun n streams rules past session now.legal) some)

-- ---- one entry

manifest_behind : (n : Numbers) (streams : Streams) (entry : Entry) (past : List Entry) (objects : Objects) (id : ManifestId) → plans_of n streams (entry ∷ past) ≡ plans_of n streams past → IsManifestWhole n streams past objects id → IsManifestWhole n streams (entry ∷ past) objects id
unfolding text_of
manifest_behind n streams entry past objects id stay is = record {
  text = is.text ∙ ap (λ (plans : List Planned). manifest_text (manifest_pieces n streams id) (planned_places id plans)) (sym stay);
  chunks = λ k p place piece_there place_there.
      let chunk = is.chunks k p place piece_there (ap (λ (plans : List Planned). slice_get (planned_places id plans) k) (sym stay) ∙ place_there) in
      record { id = chunk.id; begun = has_older (begins chunk.id.session) entry past chunk.begun; chunk = chunk.chunk; piece_is = chunk.piece_is };
}

records_behind : (n : Numbers) (streams : Streams) (entry : Entry) (past : List Entry) (objects : Objects) (id : ContainerId) → plans_of n streams (entry ∷ past) ≡ plans_of n streams past → HasRecords n streams past objects id → HasRecords n streams (entry ∷ past) objects id
records_behind n streams entry past objects id stay has = record {
  rest = has.rest;
  begins = has.begins ∙ ap (λ (plans : List Planned). container_text id (map (λ l. l.chunk) (laid_in id.ordinal (laid_of id.session plans))) ++ has.rest) (sym stay);
}

whole_with : (n : Numbers) (streams : Streams) (rules : Rules) (entry : Entry) (past : List Entry) (objects : Objects) → is_legal rules (entry ∷ past) ≡ true → CommitsNothing entry.point → IsWhole n streams past objects → IsWhole n streams (entry ∷ past) objects
unfolding is_live plans_of containers_of
whole_with n streams rules entry past objects legal none whole =
    let now = step rules entry past legal in
    let stay : plans_of n streams (entry ∷ past) ≡ plans_of n streams past = plans_stay n streams past entry.point (plans_of n streams past) none in
    record {
      manifests = λ id live.
          let committed = sym (has_same (commits_manifest id) entry past (commits_none id entry.point none)) ∙ (and_parts _ _ live).0 in
          manifest_behind n streams entry past objects id stay (whole.manifests id (live_before rules id entry past legal committed live));
      containers = λ id unfinished below.
          let before = subst (λ (plans : List Planned). id.ordinal < (end_of id.session plans).containers) stay below in
          let begun = stored_begun n streams rules past id.session now.legal (omega (arith, before)) in
          let still = (has_parts (closes id.session) entry past (unfinished_is id.session (entry ∷ past) unfinished).1).1 in
          records_behind n streams entry past objects id stay (whole.containers id (unfinished_from id.session past begun still) before);
    }

-- ---- all of them

pub whole_behind : (n : Numbers) (streams : Streams) (rules : Rules) (newer older : List Entry) (objects : Objects) → is_legal rules (newer ++ older) ≡ true → All (λ (entry : Entry). CommitsNothing entry.point) newer → IsWhole n streams older objects → IsWhole n streams (newer ++ older) objects
whole_behind n streams rules [] older objects legal none whole = whole
whole_behind n streams rules (entry ∷ newer) older objects legal none whole =
    let Nothing : Entry → Type 0 = λ e. CommitsNothing e.point in
    let past = newer ++ older in
    whole_with n streams rules entry past objects legal (All-head Nothing entry newer none)
    (whole_behind n streams rules newer older objects (step rules entry past legal).legal (All-tail Nothing entry newer none) whole)
