-- The uses of a stored segment are those of a commit.
use Rattle.std.proofs.Common.{◌≡◌, ℕ, ◌^◌, ◌<◌, ◌&&◌, ltb, eqb, Bool, true, List, [], ◌∷◌, map, length, Contains, Option, Some, None, option_and_then, find, refl, sym, ap, subst, inl, inr, arith}
use Rattle.std.specs.List.{list_all, AllByRecursion}
use Rattle.std.specs.List.Sorted.{IsStrictlySortedBy}
use Rattle.std.specs.declared.cmp.Ordering.TheVariants.{Less}
use Rattle.std.proofs.lemmas.Bool.{and_from, or_left, or_right, eq-eqb, lt-ltb, le-leb}
use Rattle.std.proofs.lemmas.Bool.Decides.{nat_tests}
use Rattle.std.proofs.lemmas.Map.Keys.{sorted_head, sorted_tail}
use Rattle.ss_base.specs.declared.ids.ContainerId.{ContainerId}
use Rattle.ss_base.specs.declared.ids.ManifestId.{ManifestId}
use Rattle.ss_base.specs.Ids.{same_container, has_container}
use Rattle.ss_base.specs.Order.{container_cmp, is_container_before, is_before_first, are_ascending}
use Rattle.ss_base.proofs.IdLaws.{same_container-self}
use Rattle.ss_base.proofs.MemberLaws.{In, in_Contains, in_any, find_in, filter_map_in, map_in}
use Rattle.journal_entry.specs.declared.entry.Entry.{Entry}
use Rattle.journal_entry.specs.declared.entry.Point.{Point}
use Rattle.journal_entry.specs.declared.entry.Point.TheVariants.{Commit}
use Rattle.journal_entry.specs.Bounds.{most_uses}
use Rattle.history.specs.Sessions.{has, newest, pending_champions}
use Rattle.history.specs.Need.{commits_manifest}
use Rattle.history.specs.Legal.{lists_use, is_use_of_any, is_use, are_uses}
use Rattle.manifest_codec.specs.declared.manifest.Manifest.{Manifest}
use Rattle.manifest_codec.specs.Containers.{AreContainers}
use Rattle.container_file.specs.declared.container_end.ContainerEnd.{ContainerEnd}
use Rattle.segment_plan.specs.Plan.{Located}
use Rattle.segment_plan.specs.Planned.{located}
use Rattle.segment_plan.specs.Located.{IsOfManifest, MayUse}
use Rattle.segment_plan.proofs.LieLaws.{Contains-from_in}
use Rattle.store_core.specs.View.{KeptView, kept_by, kept, all_kept}
use Rattle.store_core.specs.declared.values.Stored.{Stored}
use Rattle.outside.specs.Views.{ShelfView}
use Rattle.segment_store.specs.Loads.{Holding, after_turn, AreLoaded}
use Rattle.segment_store.proofs.LoadLaws.{like_kept}
use Rattle.segment_store.specs.Stored.{CanBeCommitted}

-- ---- ascending

before_is : (a b : ContainerId) → container_cmp a b ≡ Less → is_container_before a b ≡ true
before_is a b less = grind (arith, nat_tests)

first_is : (id : ContainerId) (ids : List ContainerId) → AllByRecursion (λ (other : ContainerId). container_cmp id other ≡ Less) ids → is_before_first id ids ≡ true
unfolding is_before_first
first_is id [] all = refl
first_is id (other ∷ ids) all = before_is id other all.0

pub ascending_is : (ids : List ContainerId) → IsStrictlySortedBy container_cmp ids → are_ascending ids ≡ true
unfolding are_ascending
ascending_is [] sorted = refl
ascending_is (id ∷ ids) sorted =
    and_from (is_before_first id ids) (are_ascending ids) (first_is id ids (sorted_head container_cmp id ids sorted)) (ascending_is ids (sorted_tail container_cmp id ids sorted))

-- ---- what is kept of a champion

listed : (id : ManifestId) (use_of : ContainerId) (view : KeptView) (point : Point) → commits_manifest id point ≡ true → kept_by point ≡ Some view → In use_of view.uses →
    lists_use id use_of point ≡ true
unfolding commits_manifest kept_by lists_use has_container
listed id use_of view (Commit manifest content text chunks bytes fresh fresh_bytes uses) commits keeps there =
    let by : KeptView = record { id = manifest; text = text; content = content; chunks = chunks; uses = uses } in
    let is : by ≡ view = cc in
    and_from _ (has_container use_of uses) commits (in_any (same_container use_of) use_of uses (subst (λ (us : List ContainerId). In use_of us) (sym (ap (λ (v : KeptView). v.uses) is)) there) (same_container-self use_of))
listed id use_of view _ commits keeps there = absurd (cc)

has_listed : (id : ManifestId) (past : List Entry) (view : KeptView) (use_of : ContainerId) → kept id past ≡ Some view → In use_of view.uses → has (lists_use id use_of) past ≡ true
unfolding kept newest has
has_listed id past view use_of keeps there =
    let does = λ (entry : Entry). commits_manifest id entry.point in
    let found = λ (o : Option Entry). option_and_then (λ (entry : Entry). kept_by entry.point) o ≡ Some view in
    elim (find does past) as (λ (o : Option Entry). find does past ≡ o → found o → has (lists_use id use_of) past ≡ true) [
      | None ↦ λ e keeps'. absurd (cc)
      | Some entry ↦ λ e keeps'.
          let at = find_in does past entry e in
          in_any (λ (x : Entry). lists_use id use_of x.point) entry past at.0 (listed id use_of view entry.point at.1 keeps' there)
    ] refl keeps

-- the champions' uses
use_of_any : (ids : List ManifestId) (past : List Entry) (view : KeptView) (use_of : ContainerId) → In view (all_kept ids past) → In use_of view.uses → is_use_of_any ids past use_of ≡ true
unfolding is_use_of_any
use_of_any ids past view use_of among there =
    let from = filter_map_in (λ (id : ManifestId). kept id past) view ids among in
    in_any (λ (id : ManifestId). has (lists_use id use_of) past) from.0 ids from.1 (has_listed from.0 past view use_of from.2 there)

-- what was kept of a manifest that was loaded
kept_for : (holds : Holding) (shelf : ShelfView) (kepts : List KeptView) (manifests : List Manifest) → AreLoaded holds shelf kepts manifests → (manifest : Manifest) → In manifest manifests →
    (view : KeptView) × In view kepts × AreContainers manifest.places.items view.uses
kept_for holds shelf [] [] are manifest there = absurd there
kept_for holds shelf [] (m ∷ ms) are manifest there = absurd are
kept_for holds shelf (k ∷ ks) [] are manifest there = absurd there
kept_for holds shelf (k ∷ ks) (m ∷ ms) are manifest (inl same) = (k, inl refl, subst (λ (x : Manifest). AreContainers x.places.items k.uses) same (like_kept holds shelf k m are.0).uses)
kept_for holds shelf (k ∷ ks) (m ∷ ms) are manifest (inr later) = let rest = kept_for holds (after_turn holds shelf k m) ks ms are.1 manifest later in (rest.0, inr rest.1, rest.2)

-- ---- the uses

own_is : (session containers : ℕ) (id : ContainerId) → id.session ≡ session → id.ordinal < containers → containers < 2 ^ 32 → (eqb id.session session && ltb id.ordinal 4294967295) ≡ true
own_is session containers id is started few = and_from _ _ (eq-eqb id.session session is) (lt-ltb id.ordinal 4294967295 (omega arith))

-- a container of one of the manifests is a use of one of the champions
pub of_champion : (past : List Entry) (session : ℕ) (kepts : List KeptView) (holds : Holding) (shelf : ShelfView) (manifests : List Manifest)
    → kepts ≡ all_kept (pending_champions session past) past → AreLoaded holds shelf kepts manifests
    → (id : ContainerId) → IsOfManifest (located manifests) id → is_use_of_any (pending_champions session past) past id ≡ true
of_champion past session kepts holds shelf manifests kepts_are loaded id of =
    let champions = pending_champions session past in
    let from = map_in (λ (m : Manifest). record { pieces = m.pieces.items; places = m.places.items }) of.manifest manifests (in_Contains of.manifest (located manifests) of.there) in
    let view = kept_for holds shelf kepts manifests loaded from.0 from.1 in
    let there : Contains (map (λ p. p.container) from.0.places.items) id = subst (λ (l : Located). Contains (map (λ p. p.container) l.places) id) (sym from.2) of.container in
    use_of_any champions past view.0 id (subst (λ (ks : List KeptView). In view.0 ks) kepts_are view.1) (in_Contains id view.0.uses (view.2.each id there))

may_use : (past : List Entry) (end : ContainerEnd) (kepts : List KeptView) (holds : Holding) (shelf : ShelfView) (manifests : List Manifest)
    → kepts ≡ all_kept (pending_champions end.session past) past → AreLoaded holds shelf kepts manifests → end.containers < 2 ^ 32
    → (id : ContainerId) → MayUse (located manifests) end id → is_use end.session (pending_champions end.session past) past id ≡ true
unfolding is_use
may_use past end kepts holds shelf manifests kepts_are loaded few id (inl own) = or_left _ _ (own_is end.session end.containers id own.session own.started few)
may_use past end kepts holds shelf manifests kepts_are loaded few id (inr of) =
    or_right _ (is_use_of_any (pending_champions end.session past) past id) (of_champion past end.session kepts holds shelf manifests kepts_are loaded id of)

all_from : {X : Type 0} (p : X → Bool) (xs : List X) → ((x : X) → In x xs → p x ≡ true) → list_all p xs ≡ true
all_from p [] each = refl
all_from p (x ∷ xs) each = and_from (p x) (list_all p xs) (each x (inl refl)) (all_from p xs (λ y there. each y (inr there)))

pub uses_allowed : (past : List Entry) (end : ContainerEnd) (kepts : List KeptView) (holds : Holding) (shelf : ShelfView) (manifests : List Manifest) (stored : Stored)
    → kepts ≡ all_kept (pending_champions end.session past) past → AreLoaded holds shelf kepts manifests → CanBeCommitted (located manifests) end stored
    → are_uses end.session past stored.uses.items ≡ true
unfolding are_uses
uses_allowed past end kepts holds shelf manifests stored kepts_are loaded can =
    let uses = stored.uses.items in
    let champions = pending_champions end.session past in
    and_from (are_ascending uses) _ can.ascending
    (and_from _ (list_all (is_use end.session champions past) uses) (le-leb (length uses) most_uses can.most)
    (all_from (is_use end.session champions past) uses
    (λ id there. may_use past end kepts holds shelf manifests kepts_are loaded can.few id (can.each id (Contains-from_in id uses there)))))
