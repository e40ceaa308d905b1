-- What a committed manifest's Commit says of it, however the history goes on.
use Rattle.std.proofs.Common.{◌≡◌, ℕ, ◌≤◌, true, false, List, [], ◌∷◌, length, Some, refl, sym, ap, ◌∙◌, subst, inl, inr, arith}
use mathlib.Core.List.{map}
use Rattle.std.specs.List.{All, AllByRecursion}
use Rattle.std.proofs.lemmas.Bool.{false≢true, both_ways, cases_Bool, and_parts, leb-true}
use Rattle.std.proofs.lemmas.List.{length-map}
use Rattle.std.proofs.lemmas.List.Elements.{All-head, All-tail}
use Rattle.ss_base.specs.declared.ids.ContainerId.{ContainerId}
use Rattle.ss_base.specs.declared.ids.ManifestId.{ManifestId}
use Rattle.ss_base.specs.declared.ids.Place.{Place}
use Rattle.ss_base.specs.declared.limits.TheConstants.{MAX_CHUNKS}
use Rattle.ss_base.specs.declared.name.Name.{Name}
use Rattle.ss_base.specs.declared.profile.Numbers.{Numbers}
use Rattle.ss_base.specs.Profile.{AreSound}
use Rattle.ss_base.proofs.MemberLaws.{in_Contains, All-from_in}
use Rattle.ss_base.proofs.IdLaws.{same_manifest-self, same_manifest-true}
use Rattle.chunk_name.specs.Pieces.{piece, name_of_bytes}
use Rattle.manifest_codec.specs.PiecesPart.{pieces_part}
use Rattle.manifest_codec.specs.Text.{manifest_text, IsPlace, AreManifest}
use Rattle.manifest_codec.specs.Containers.{AreContainers}
use Rattle.journal_entry.specs.declared.entry.Entry.{Entry}
use Rattle.journal_entry.specs.declared.entry.Point.{Point}
use Rattle.journal_entry.specs.declared.entry.Point.TheVariants.{Commit}
use Rattle.journal_entry.specs.Bounds.{FitsContainer, IsEntry, are_counts}
use Rattle.history.specs.declared.rules.Rules.{Rules}
use Rattle.history.specs.Sessions.{has, newest}
use Rattle.history.specs.Need.{commits_manifest}
use Rattle.history.specs.Legal.{is_legal}
use Rattle.history_laws.proofs.Allowed.{IsStep, step, commit_says}
use Rattle.history_laws.proofs.SessionLaws.{has_cases, has_none}
use Rattle.store_core.specs.View.{KeptView, kept, kept_by, made}
use Rattle.stored_streams.specs.Streams.{Streams, manifest_chunks, manifest_pieces}
use Rattle.stored_streams.specs.Plans.{planned_places, plan_for, next_plan, plans_after, plans_of, text_of}
use Rattle.stored_streams.specs.OfStreams.{ContentOf, StoredOf, EachEntry}
use Rattle.stored_streams.proofs.ListLaws.{contains_from_in, in_map}
use Rattle.stored_streams.proofs.SegmentLaws.{pieces_sized, pieces_named}
use Rattle.stored_streams.proofs.PlaceLaws.{Each}
use Rattle.stored_streams.proofs.PlanLaws.{plans_sound, places_of_within, places_newest, places_stay}

-- what is known of a committed manifest
pub record IsKeptOf (n : Numbers) (streams : Streams) (past : List Entry) (id : ManifestId) : Type 0 where
  pub view : KeptView
  pub kept_is : kept id past ≡ Some view
  pub digest : view.text ≡ name_of_bytes (text_of n streams id past)
  pub some : 1 ≤ length (manifest_pieces n streams id)
  pub most : length (manifest_pieces n streams id) ≤ MAX_CHUNKS
  pub count : length (planned_places id (plans_of n streams past)) ≡ length (manifest_chunks n streams id)
  pub fits : Each (λ (p : Place). FitsContainer p.container) (planned_places id (plans_of n streams past))

pub kept_here : (id : ManifestId) (entry : Entry) (past : List Entry) → commits_manifest id entry.point ≡ true → kept id (entry ∷ past) ≡ kept_by entry.point
unfolding kept newest
kept_here id entry past does = rw does refl

pub kept_older : (id : ManifestId) (entry : Entry) (past : List Entry) → commits_manifest id entry.point ≡ false → kept id (entry ∷ past) ≡ kept id past
unfolding kept newest
kept_older id entry past other = rw other refl

by_recursion_in : {X : Type 0} (P : X → Type 0) (xs : List X) → AllByRecursion P xs → Each P xs
by_recursion_in P [] all = λ x h. absurd h
by_recursion_in P (y ∷ ys) all = λ x h. elim h [
  | inl is ↦ subst P is all.0
  | inr later ↦ by_recursion_in P ys all.1 x later
]

-- containers of places fit where the list of the containers does
containers_fit : (places : List Place) (uses : List ContainerId) → AreContainers places uses → AllByRecursion FitsContainer uses → Each (λ (p : Place). FitsContainer p.container) places
containers_fit places uses are fit = λ p h.
    let listed = are.each p.container (contains_from_in p.container (map (λ (p : Place). p.container) places) (in_map (λ (p : Place). p.container) p places h)) in
    by_recursion_in FitsContainer uses fit p.container (in_Contains p.container uses listed)

counts_are : (chunks bytes fresh fresh_bytes : ℕ) → are_counts chunks bytes fresh fresh_bytes ≡ true → (1 ≤ chunks) × (chunks ≤ MAX_CHUNKS)
counts_are chunks bytes fresh fresh_bytes e =
    let first = and_parts _ _ e in
    let second = and_parts _ _ first.1 in
    (leb-true _ _ first.0, leb-true _ _ second.0)

-- the entry that commits it
kept_commit : (n : Numbers) (streams : Streams) (rules : Rules) (author : ℕ) (id : ManifestId) (content text : Name) (chunks bytes fresh fresh_bytes : ℕ) (uses : List ContainerId) (past : List Entry) → AreSound n → IsStep rules (made author (Commit id content text chunks bytes fresh fresh_bytes uses)) past → IsEntry (made author (Commit id content text chunks bytes fresh fresh_bytes uses)) → ContentOf n streams past (Commit id content text chunks bytes fresh fresh_bytes uses) → StoredOf n streams past (Commit id content text chunks bytes fresh fresh_bytes uses) → IsKeptOf n streams (made author (Commit id content text chunks bytes fresh fresh_bytes uses) ∷ past) id
unfolding commits_manifest kept_by text_of plans_of plans_after next_plan plan_for
kept_commit n streams rules author id content text chunks bytes fresh fresh_bytes uses past sound now entry contents stored =
    let e = made author (Commit id content text chunks bytes fresh fresh_bytes uses) in
    let plans = plans_of n streams past in
    let plan = next_plan n streams past id plans in
    let places : planned_places id (plan ∷ plans) ≡ plan.places = places_newest id plan plans refl in
    let said = commit_says rules past author id content text chunks bytes fresh fresh_bytes uses now.allowed in
    let counts = counts_are chunks bytes fresh fresh_bytes said.counted in
    let many = contents.chunk_count in
    let each = plans_sound n streams (e ∷ past) sound in
    record {
      view = record { id = id; text = text; content = content; chunks = chunks; uses = uses };
      kept_is = kept_here id e past (same_manifest-self id);
      digest = stored.digest ∙ ap (λ (ps : List Place). name_of_bytes (manifest_text (manifest_pieces n streams id) ps)) (sym places);
      some = subst (λ (k : ℕ). 1 ≤ k) many counts.0;
      most = subst (λ (k : ℕ). k ≤ MAX_CHUNKS) many counts.1;
      count = ap length places ∙ (each plan (inl refl)).count;
      fits = subst (Each (λ (p : Place). FitsContainer p.container)) (sym places) (containers_fit plan.places uses stored.containers entry.point.7);
    }

kept_now : (n : Numbers) (streams : Streams) (rules : Rules) (author : ℕ) (point : Point) (past : List Entry) (id : ManifestId) → AreSound n → IsStep rules (made author point) past → IsEntry (made author point) → ContentOf n streams past point → StoredOf n streams past point → commits_manifest id point ≡ true → IsKeptOf n streams (made author point ∷ past) id
unfolding commits_manifest
kept_now n streams rules author (Commit other content text chunks bytes fresh fresh_bytes uses) past id sound now entry contents stored does =
    subst (IsKeptOf n streams (made author (Commit other content text chunks bytes fresh fresh_bytes uses) ∷ past)) (sym (same_manifest-true id other does))
    (kept_commit n streams rules author other content text chunks bytes fresh fresh_bytes uses past sound now entry contents stored)
kept_now n streams rules author _ past id sound now entry contents stored does = absurd (false≢true does)

kept_before : (n : Numbers) (streams : Streams) (entry : Entry) (past : List Entry) (id : ManifestId) → commits_manifest id entry.point ≡ false → IsKeptOf n streams past id → IsKeptOf n streams (entry ∷ past) id
unfolding plans_of text_of
kept_before n streams entry past id other older =
    let stay : planned_places id (plans_of n streams (entry ∷ past)) ≡ planned_places id (plans_of n streams past) = places_stay n streams past id entry.point (plans_of n streams past) other in
    record {
      view = older.view;
      kept_is = kept_older id entry past other ∙ older.kept_is;
      digest = older.digest ∙ ap (λ (ps : List Place). name_of_bytes (manifest_text (manifest_pieces n streams id) ps)) (sym stay);
      some = older.some;
      most = older.most;
      count = ap length stay ∙ older.count;
      fits = subst (Each (λ (p : Place). FitsContainer p.container)) (sym stay) older.fits;
    }

pub committed_kept : (n : Numbers) (streams : Streams) (rules : Rules) (past : List Entry) (id : ManifestId) → AreSound n → is_legal rules past ≡ true → All IsEntry past → EachEntry (ContentOf n streams) past → EachEntry (StoredOf n streams) past → has (commits_manifest id) past ≡ true → IsKeptOf n streams past id
committed_kept n streams rules [] id sound legal entries contents stored does = absurd (false≢true (sym (has_none (commits_manifest id)) ∙ does))
committed_kept n streams rules (entry ∷ past) id sound legal entries contents stored does =
    let now = step rules entry past legal in
    elim (cases_Bool (commits_manifest id entry.point)) [
      | inl here ↦ kept_now n streams rules entry.author entry.point past id sound now (All-head IsEntry entry past entries) contents.1 stored.1 here
      | inr other ↦ elim (has_cases (commits_manifest id) entry past does) [
        | inl here ↦ absurd (false≢true (sym other ∙ here))
        | inr older ↦ kept_before n streams entry past id other (committed_kept n streams rules past id sound now.legal (All-tail IsEntry entry past entries) contents.0 stored.0 older)
      ]
    ]

-- its pieces and places are a manifest's
pub committed_manifest : (n : Numbers) (streams : Streams) (past : List Entry) (id : ManifestId) → AreSound n → IsKeptOf n streams past id → AreManifest (manifest_pieces n streams id) (planned_places id (plans_of n streams past))
unfolding manifest_pieces
committed_manifest n streams past id sound is =
    let places = planned_places id (plans_of n streams past) in
    let within = places_of_within n streams id (plans_of n streams past) (plans_sound n streams past sound) in
    let room = sound.container in
    record {
      listed = record {
        some = is.some;
        bounded = is.most;
        lengths = pieces_sized n streams id sound;
        located = is.count ∙ sym (length-map (manifest_chunks n streams id) piece);
      };
      names = pieces_named n streams id;
      numbers = All-from_in IsPlace places (λ p h.
          let fits = is.fits p h in
          let most = within p h in
          record { session = fits.0; ordinal = fits.1; offset = omega (arith, most, room) });
    }

-- ---- the number of chunks that was kept is that of the segment

point_counts : (n : Numbers) (streams : Streams) (past : List Entry) (id : ManifestId) (view : KeptView) (point : Point) → commits_manifest id point ≡ true → ContentOf n streams past point → kept_by point ≡ Some view → view.chunks ≡ length (manifest_pieces n streams id)
unfolding commits_manifest kept_by
point_counts n streams past id view (Commit other content text chunks bytes fresh fresh_bytes uses) does holds is =
    let same : record { id = other; text = text; content = content; chunks = chunks; uses = uses } ≡ view = cc in
    ap (λ (v : KeptView). v.chunks) (sym same) ∙ holds.chunk_count ∙ ap (λ (i : ManifestId). length (manifest_pieces n streams i)) (sym (same_manifest-true id other does))
point_counts n streams past id view _ does holds is = absurd (false≢true does)

pub kept_counts : (n : Numbers) (streams : Streams) (past : List Entry) (id : ManifestId) (view : KeptView) → EachEntry (ContentOf n streams) past → has (commits_manifest id) past ≡ true → kept id past ≡ Some view → view.chunks ≡ length (manifest_pieces n streams id)
kept_counts n streams [] id view contents committed is = absurd (both_ways _ (has_none (commits_manifest id)) committed)
kept_counts n streams (entry ∷ past) id view contents committed is = elim (cases_Bool (commits_manifest id entry.point)) [
  | inl here ↦ point_counts n streams past id view entry.point here contents.1 (sym (kept_here id entry past here) ∙ is)
  | inr other ↦ elim (has_cases (commits_manifest id) entry past committed) [
    | inl here ↦ absurd (both_ways _ other here)
    | inr older ↦ kept_counts n streams past id view contents.0 older (sym (kept_older id entry past other) ∙ is)
  ]
]

-- ---- what was kept is like what was planned

pub record IsStored (n : Numbers) (streams : Streams) (past : List Entry) (id : ManifestId) (view : KeptView) : Type 0 where
  pub content : view.content ≡ name_of_bytes (pieces_part (manifest_pieces n streams id))
  pub uses : AreContainers (planned_places id (plans_of n streams past)) view.uses

stored_commit : (n : Numbers) (streams : Streams) (past : List Entry) (author : ℕ) (id : ManifestId) (content text : Name) (chunks bytes fresh fresh_bytes : ℕ) (uses : List ContainerId) → ContentOf n streams past (Commit id content text chunks bytes fresh fresh_bytes uses) → StoredOf n streams past (Commit id content text chunks bytes fresh fresh_bytes uses)
    → IsStored n streams (record { author = author; point = Commit id content text chunks bytes fresh fresh_bytes uses } ∷ past) id (record { id = id; text = text; content = content; chunks = chunks; uses = uses })
unfolding plans_of plans_after next_plan plan_for
stored_commit n streams past author id content text chunks bytes fresh fresh_bytes uses holds stored =
    let plans = plans_of n streams past in
    let plan = next_plan n streams past id plans in
    let places : planned_places id (plan ∷ plans) ≡ plan.places = places_newest id plan plans refl in
    record { content = holds.digest; uses = subst (λ (ps : List Place). AreContainers ps uses) (sym places) stored.containers }

stored_here : (n : Numbers) (streams : Streams) (past : List Entry) (author : ℕ) (id : ManifestId) (view : KeptView) (point : Point) → commits_manifest id point ≡ true → ContentOf n streams past point → StoredOf n streams past point → kept_by point ≡ Some view → IsStored n streams (record { author = author; point = point } ∷ past) id view
unfolding commits_manifest kept_by
stored_here n streams past author id view (Commit other content text chunks bytes fresh fresh_bytes uses) does holds stored is =
    let at : KeptView = record { id = other; text = text; content = content; chunks = chunks; uses = uses } in
    let same : at ≡ view = cc in
    let past' = record { author = author; point = Commit other content text chunks bytes fresh fresh_bytes uses } ∷ past in
    subst (IsStored n streams past' id) same
    (subst (λ (i : ManifestId). IsStored n streams past' i at) (sym (same_manifest-true id other does))
    (stored_commit n streams past author other content text chunks bytes fresh fresh_bytes uses holds stored))
stored_here n streams past author id view _ does holds stored is = absurd (false≢true does)

stored_before : (n : Numbers) (streams : Streams) (entry : Entry) (past : List Entry) (id : ManifestId) (view : KeptView) → commits_manifest id entry.point ≡ false → IsStored n streams past id view → IsStored n streams (entry ∷ past) id view
unfolding plans_of
stored_before n streams entry past id view other older =
    let stay : planned_places id (plans_of n streams (entry ∷ past)) ≡ planned_places id (plans_of n streams past) = places_stay n streams past id entry.point (plans_of n streams past) other in
    record { content = older.content; uses = subst (λ (ps : List Place). AreContainers ps view.uses) (sym stay) older.uses }

pub kept_stored : (n : Numbers) (streams : Streams) (past : List Entry) (id : ManifestId) (view : KeptView) → EachEntry (ContentOf n streams) past → EachEntry (StoredOf n streams) past → has (commits_manifest id) past ≡ true → kept id past ≡ Some view → IsStored n streams past id view
kept_stored n streams [] id view contents stored committed is = absurd (both_ways _ (has_none (commits_manifest id)) committed)
kept_stored n streams (entry ∷ past) id view contents stored committed is = elim (cases_Bool (commits_manifest id entry.point)) [
  | inl here ↦ stored_here n streams past entry.author id view entry.point here contents.1 stored.1 (sym (kept_here id entry past here) ∙ is)
  | inr other ↦ elim (has_cases (commits_manifest id) entry past committed) [
    | inl here ↦ absurd (both_ways _ other here)
    | inr older ↦ stored_before n streams entry past id view other (kept_stored n streams past id view contents.0 stored.0 older (sym (kept_older id entry past other) ∙ is))
  ]
]
