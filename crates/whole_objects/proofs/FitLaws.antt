-- The numbers of a history's objects fit their places in an entry.
use Rattle.std.proofs.Common.{◌≡◌, ℕ, ◌==◌, ◌+◌, ◌<◌, ◌≤◌, ◌^◌, Bool, true, List, [], ◌∷◌, ◌++◌, Some, None, refl, sym, ap, ◌∙◌, subst, inl, inr, arith}
use mathlib.Core.List.{map}
use Rattle.std.specs.List.{All, AllByRecursion}
use Rattle.std.proofs.lemmas.Bool.{false≢true, cases_Bool, and_parts, or_cases, eqb-true}
use Rattle.std.proofs.lemmas.List.Elements.{All-head, All-tail}
use Rattle.ss_base.specs.declared.ids.ContainerId.{ContainerId}
use Rattle.ss_base.specs.declared.ids.ManifestId.{ManifestId}
use Rattle.ss_base.specs.declared.ids.Place.{Place}
use Rattle.ss_base.specs.declared.name.Piece.{Piece}
use Rattle.ss_base.specs.declared.profile.Numbers.{Numbers}
use Rattle.ss_base.specs.Ids.{same_container, has_container}
use Rattle.ss_base.specs.Origins.{fresh_behind, fresh_marks}
use Rattle.ss_base.proofs.IdLaws.{same_manifest-true, same_container-true}
use Rattle.ss_base.proofs.MemberLaws.{In, any_in, in_Contains, count_one, count_other}
use Rattle.chunk_name.specs.Pieces.{piece}
use Rattle.manifest_codec.specs.Containers.{AreContainers}
use Rattle.container_file.specs.declared.container_end.ContainerEnd.{ContainerEnd}
use Rattle.container_file.specs.Chunk.{Chunk, marked}
use Rattle.container_file.specs.Layout.{Laid, after, place_for, laid, end_after}
use Rattle.container_file.proofs.LayoutLaws.{ordinal_last}
use Rattle.lack_plan.specs.declared.origin.Origin.TheVariants.{Champion, Earlier}
use Rattle.lack_plan.specs.Plan.{origins}
use Rattle.segment_plan.specs.Plan.{Located, pieces_of, fresh_of, places_against, end_against}
use Rattle.segment_plan.proofs.StepLaws.{step, fresh_left, left, left-new, laid-new, laid-old, old_place, left-old}
use Rattle.journal_entry.specs.declared.entry.Entry.{Entry}
use Rattle.journal_entry.specs.declared.entry.Point.{Point}
use Rattle.journal_entry.specs.declared.entry.Point.TheVariants.{Begin, Commit}
use Rattle.journal_entry.specs.Bounds.{FitsContainer, FitsManifest, PointFits, IsEntry}
use Rattle.history.specs.Need.{commits_manifest, uses_live, is_needed}
use Rattle.history.specs.declared.rules.Rules.{Rules}
use Rattle.history.specs.Legal.{is_allowed, is_legal}
use Rattle.history.specs.Sessions.{session_begun, begins, has, is_unfinished, pending_champions, commits, commits_of}
use Rattle.history_laws.proofs.Allowed.{IsStep, step as step_of, commit_says}
use Rattle.history_laws.proofs.SessionLaws.{has_cases, has_none}
use Rattle.stored_streams.specs.Streams.{Streams, manifest_chunks}
use Rattle.stored_streams.specs.Plans.{Planned, located_of, last_plan, end_of, plan_for, next_plan, plans_after, plans_of}
use Rattle.stored_streams.specs.OfStreams.{StoredOf, EachEntry}
use Rattle.stored_streams.proofs.ListLaws.{contains_from_in, in_map}
use Rattle.stored_streams.proofs.PlanLaws.{end_own, end_other}

-- ---- what an entry says

fits_in : (id : ContainerId) (uses : List ContainerId) → AllByRecursion FitsContainer uses → In id uses → FitsContainer id
fits_in id [] fit there = absurd there
fits_in id (one ∷ uses) fit (inl is) = subst FitsContainer is fit.0
fits_in id (one ∷ uses) fit (inr later) = fits_in id uses fit.1 later

fits_listed : (id : ContainerId) (uses : List ContainerId) → AllByRecursion FitsContainer uses → has_container id uses ≡ true → FitsContainer id
unfolding has_container
fits_listed id uses fit has =
    let (one, there, same) = any_in (same_container id) uses has in
    subst FitsContainer (sym (same_container-true id one same)) (fits_in one uses fit there)

entry_in : (does : Point → Bool) (P : Type 0) (past : List Entry) → ((point : Point) → PointFits point → does point ≡ true → P) → All IsEntry past → has does past ≡ true → P
entry_in does P [] fits entries there = absurd (false≢true (sym (has_none does) ∙ there))
entry_in does P (entry ∷ past) fits entries there = elim (has_cases does entry past there) [
  | inl here ↦ (let is : IsEntry entry = All-head IsEntry entry past entries in fits entry.point is.point here)
  | inr older ↦ entry_in does P past fits (All-tail IsEntry entry past entries) older
]

begun_point : (session : ℕ) (point : Point) → PointFits point → begins session point ≡ true → session < 2 ^ 32
unfolding begins session_begun
begun_point session (Begin name (Some other)) fits does = subst (λ (s : ℕ). s < 2 ^ 32) (sym (eqb-true session other does)) fits.1
begun_point session (Begin name None) fits does = absurd (false≢true does)
begun_point session _ fits does = absurd (false≢true does)

pub begun_low : (session : ℕ) (past : List Entry) → All IsEntry past → has (begins session) past ≡ true → session < 2 ^ 32
begun_low session past entries begun = entry_in (begins session) (session < 2 ^ 32) past (begun_point session) entries begun

committed_point : (id : ManifestId) (point : Point) → PointFits point → commits_manifest id point ≡ true → FitsManifest id
unfolding commits_manifest
committed_point id (Commit other content text chunks bytes fresh fresh_bytes uses) fits does = subst FitsManifest (sym (same_manifest-true id other does)) fits.0
committed_point id _ fits does = absurd (false≢true does)

pub committed_fits : (id : ManifestId) (past : List Entry) → All IsEntry past → has (commits_manifest id) past ≡ true → FitsManifest id
committed_fits id past entries there = entry_in (commits_manifest id) (FitsManifest id) past (committed_point id) entries there

used_point : (id : ContainerId) (past : List Entry) (point : Point) → PointFits point → uses_live id past point ≡ true → FitsContainer id
unfolding uses_live
used_point id past (Commit other content text chunks bytes fresh fresh_bytes uses) fits does = fits_listed id uses fits.7 (and_parts _ _ does).0
used_point id past _ fits does = absurd (false≢true does)

-- a needed container is of a session with such a number
pub needed_low : (id : ContainerId) (past : List Entry) → All IsEntry past → is_needed id past ≡ true → id.session < 2 ^ 32
unfolding is_needed is_unfinished
needed_low id past entries needed = elim (or_cases (is_unfinished id.session past) (has (uses_live id past) past) needed) [
  | inl going ↦ begun_low id.session past entries (and_parts _ _ going).0
  | inr used ↦ (entry_in (uses_live id past) (FitsContainer id) past (used_point id past) entries used).0
]

-- ---- the containers of a session

-- each fresh chunk lies at a place of its segment
laid_placed : (eps : List Piece) (epl : List Place) (chunks : List (List ℕ)) (ms : List Located) (end : ContainerEnd) (room : ℕ) (l : Laid) → In l (laid end room (fresh_left eps chunks (pieces_of ms))) → In l.place (left eps epl chunks ms end room)
unfolding fresh_behind marked laid
laid_placed eps epl [] ms end room l there = absurd there
laid_placed eps epl (c ∷ cs) ms end room l there = elim (step eps (pieces_of ms) (piece c)) [
  | inl new ↦
      let p = place_for end room (piece c) in
      let behind = left (eps ++ piece c ∷ []) (epl ++ p ∷ []) cs ms (after end room (piece c)) room in
      subst (In l.place) (sym (left-new eps epl c cs ms end room new)) (elim (subst (In l) (laid-new eps c cs (pieces_of ms) end room new.mark) there) as (λ x. In l.place (p ∷ behind)) [
        | inl is ↦ inl (ap (λ (x : Laid). x.place) is)
        | inr later ↦ inr (laid_placed (eps ++ piece c ∷ []) (epl ++ p ∷ []) cs ms (after end room (piece c)) room l later)
      ])
  | inr (inl old) ↦
      let q = old_place (Earlier old.at) eps epl c cs ms end room in
      subst (In l.place) (sym (left-old (Earlier old.at) eps epl c cs ms end room (λ fresh. refl) old.origin_is old.mark))
      (inr (laid_placed (eps ++ piece c ∷ []) (epl ++ q ∷ []) cs ms end room l (subst (In l) (laid-old eps c cs (pieces_of ms) end room old.mark) there)))
  | inr (inr old) ↦
      let q = old_place (Champion old.which old.at) eps epl c cs ms end room in
      subst (In l.place) (sym (left-old (Champion old.which old.at) eps epl c cs ms end room (λ fresh. refl) old.origin_is old.mark))
      (inr (laid_placed (eps ++ piece c ∷ []) (epl ++ q ∷ []) cs ms end room l (subst (In l) (laid-old eps c cs (pieces_of ms) end room old.mark) there)))
]

-- the last of some chunks lies in the last container
record IsLast (end : ContainerEnd) (room : ℕ) (cs : List Chunk) : Type 0 where
  one : Laid
  there : In one (laid end room cs)
  last : one.place.container.ordinal + 1 ≡ (end_after end room cs).containers

last_laid : (end : ContainerEnd) (room : ℕ) (c : Chunk) (cs : List Chunk) → IsLast end room (c ∷ cs)
unfolding laid end_after
last_laid end room c [] = record { one = record { chunk = c; place = place_for end room c.piece }; there = inl refl; last = ordinal_last end room c.piece }
last_laid end room c (d ∷ cs) = let rest = last_laid (after end room c.piece) room d cs in record { one = rest.one; there = inr rest.there; last = rest.last }

few_laid : (cs : List Chunk) (end : ContainerEnd) (room : ℕ) (places : List Place) (uses : List ContainerId) → end.containers ≤ 2 ^ 32 → ((l : Laid) → In l (laid end room cs) → In l.place places) → AreContainers places uses → AllByRecursion FitsContainer uses → (end_after end room cs).containers ≤ 2 ^ 32
unfolding end_after
few_laid [] end room places uses few placed are fit = few
few_laid (c ∷ cs) end room places uses few placed are fit =
    let last = last_laid end room c cs in
    let place = last.one.place in
    let listed = are.each place.container (contains_from_in place.container (map (λ (p : Place). p.container) places) (in_map (λ (p : Place). p.container) place places (placed last.one last.there))) in
    let fits = (fits_in place.container uses fit (in_Contains place.container uses listed)).1 in
    let is = last.last in
    omega (arith, fits, is)

few_against : (chunks : List (List ℕ)) (ms : List Located) (end : ContainerEnd) (room : ℕ) (uses : List ContainerId) → end.containers ≤ 2 ^ 32 → AreContainers (places_against chunks ms end room) uses → AllByRecursion FitsContainer uses → (end_against chunks ms end room).containers ≤ 2 ^ 32
unfolding places_against end_against origins fresh_marks fresh_of
few_against chunks ms end room uses few are fit =
    few_laid (fresh_left [] chunks (pieces_of ms)) end room (left [] [] chunks ms end room) uses few (λ l there. laid_placed [] [] chunks ms end room l there) are fit

IsFew : ℕ → List Planned → Type 0
IsFew session plans = (end_of session plans).containers ≤ 2 ^ 32

few_after : (n : Numbers) (streams : Streams) (past : List Entry) (point : Point) (plans : List Planned) → plans ≡ plans_of n streams past → PointFits point → StoredOf n streams past point → ((s : ℕ) → IsFew s plans) → (session : ℕ) → IsFew session (plans_after n streams past point plans)
unfolding IsFew plans_after next_plan plan_for
few_after n streams past (Commit id content text chunks bytes fresh fresh_bytes uses) plans same fits stored few session =
    let p = next_plan n streams past id plans in
    elim (cases_Bool (id.session == session)) [
      | inl own ↦
          subst (λ (e : ContainerEnd). e.containers ≤ 2 ^ 32) (sym (end_own p session plans own))
          (few_against (manifest_chunks n streams id) (located_of n streams (pending_champions id.session past) plans) (end_of id.session plans) n.room uses (few id.session)
          (subst (λ (ps : List Planned). AreContainers (plan_for n streams id (located_of n streams (pending_champions id.session past) ps) ps).places uses) (sym same) stored.containers) fits.7)
      | inr other ↦ subst (λ (e : ContainerEnd). e.containers ≤ 2 ^ 32) (sym (end_other p session plans other)) (few session)
    ]
few_after n streams past _ plans same fits stored few session = few session

-- a session has at most as many containers as there are numbers
pub containers_few : (n : Numbers) (streams : Streams) (past : List Entry) → All IsEntry past → EachEntry (StoredOf n streams) past → (session : ℕ) → (end_of session (plans_of n streams past)).containers ≤ 2 ^ 32
unfolding plans_of IsFew end_of last_plan
containers_few n streams [] entries stored session = omega arith
containers_few n streams (entry ∷ past) entries stored session =
    let is : IsEntry entry = All-head IsEntry entry past entries in
    few_after n streams past entry.point (plans_of n streams past) refl is.point stored.1 (λ s. containers_few n streams past (All-tail IsEntry entry past entries) stored.0 s) session

-- ---- the commits of a session

commit_one : (rules : Rules) (session : ℕ) (entry : Entry) (past : List Entry) → IsStep rules entry past → IsEntry entry → commits session entry.point ≡ true → commits_of session past < 2 ^ 32
unfolding commits
commit_one rules session entry past now is does = by_point entry.point is.point now.allowed does
  where
    by_point : (point : Point) → PointFits point → is_allowed rules past entry.author point ≡ true → commits session point ≡ true → commits_of session past < 2 ^ 32
    by_point (Commit id content text chunks bytes fresh fresh_bytes uses) fits allowed does =
        let said = commit_says rules past entry.author id content text chunks bytes fresh fresh_bytes uses allowed in
        let seq = (fits.0).1 in
        let is_next = said.next in
        let own = eqb-true session id.session does in
        subst (λ (s : ℕ). commits_of s past < 2 ^ 32) (sym own) (subst (λ (q : ℕ). q < 2 ^ 32) is_next seq)
    by_point _ fits allowed does = absurd (false≢true does)

-- they have numbers, each its own
pub commits_few : (rules : Rules) (session : ℕ) (past : List Entry) → is_legal rules past ≡ true → All IsEntry past → commits_of session past ≤ 2 ^ 32
unfolding commits_of
commits_few rules session [] legal entries = omega arith
commits_few rules session (entry ∷ past) legal entries =
    let now = step_of rules entry past legal in
    elim (cases_Bool (commits session entry.point)) [
      | inl here ↦
          let one = count_one (λ (e : Entry). commits session e.point) entry past here in
          let low = commit_one rules session entry past now (All-head IsEntry entry past entries) here in
          omega (arith, one, low)
      | inr other ↦
          let same = count_other (λ (e : Entry). commits session e.point) entry past other in
          let few = commits_few rules session past now.legal (All-tail IsEntry entry past entries) in
          omega (arith, same, few)
    ]
