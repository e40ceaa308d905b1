-- Objects that are whole stay so behind a Commit.
use Rattle.std.proofs.Common.{◌≡◌, ℕ, ◌<◌, ◌==◌, true, false, List, [], ◌∷◌, ◌++◌, Some, slice_get, Contains, refl, sym, ap, ◌∙◌, subst, inl, inr}
use mathlib.Core.List.{map}
use Rattle.std.specs.List.{All}
use Rattle.std.proofs.lemmas.Bool.{false≢true, both_ways, and_parts, and_from, or_left, cases_Bool, eqb-true, eq-eqb}
use Rattle.std.proofs.lemmas.List.{length-map}
use Rattle.std.proofs.lemmas.List.Elements.{All-tail}
use Rattle.ss_base.specs.declared.ids.ContainerId.{ContainerId}
use Rattle.ss_base.specs.declared.ids.ManifestId.{ManifestId}
use Rattle.ss_base.specs.declared.ids.Place.{Place}
use Rattle.ss_base.specs.declared.name.Name.{Name}
use Rattle.ss_base.specs.declared.name.Piece.{Piece}
use Rattle.ss_base.specs.declared.object.Object.TheVariants.{Container, Manifest}
use Rattle.ss_base.specs.declared.profile.Numbers.{Numbers}
use Rattle.ss_base.specs.ObjectName.{object_text}
use Rattle.ss_base.specs.Profile.{AreSound}
use Rattle.ss_base.proofs.MemberLaws.{In, in_Contains, in_append_right, map_in, All-from_in}
use Rattle.ss_base.proofs.IdLaws.{same_manifest-true}
use Rattle.chunk_name.specs.Pieces.{piece}
use Rattle.container_file.specs.declared.container_end.ContainerEnd.{ContainerEnd}
use Rattle.container_file.specs.Chunk.{Chunk}
use Rattle.container_file.specs.Layout.{Laid, laid_in}
use Rattle.container_file.specs.Text.{container_text}
use Rattle.segment_plan.specs.Plan.{Located}
use Rattle.segment_plan.specs.Located.{HasPlaces, IsLaidThere, IsListedThere, LiesThere}
use Rattle.segment_plan.proofs.LieLaws.{Contains-from_in, all-lie}
use Rattle.outside.specs.Shelf.{Objects, bytes_of, part_of}
use Rattle.journal_entry.specs.declared.entry.Entry.{Entry}
use Rattle.journal_entry.specs.declared.entry.Point.{Point}
use Rattle.journal_entry.specs.declared.entry.Point.TheVariants.{Commit}
use Rattle.journal_entry.specs.Bounds.{IsEntry}
use Rattle.history.specs.declared.rules.Rules.{Rules}
use Rattle.history.specs.Legal.{is_legal}
use Rattle.history.specs.Need.{commits_manifest, is_live}
use Rattle.history.specs.Sessions.{session_begun, begins, finishes, aborts, closes, has, is_unfinished, is_closed, pending_champions}
use Rattle.history_laws.proofs.Allowed.{step, commit_says}
use Rattle.history_laws.proofs.LiveLaws.{pending_committed, pending_live}
use Rattle.history_laws.proofs.NeedLaws.{manifest_listed, never_live}
use Rattle.history_laws.proofs.SessionLaws.{has_cases, has_parts, has_older, unfinished_is, unfinished_from, committed_begun}
use Rattle.store_core.specs.View.{made}
use Rattle.stored_streams.specs.OfStreams.{ContentOf, StoredOf, EachEntry, IsOfStreams}
use Rattle.stored_streams.specs.Plans.{Planned, planned_places, end_of, laid_of, located_of, plan_for, next_plan, plans_after, plans_of, text_of, containers_of}
use Rattle.stored_streams.specs.Streams.{Streams, manifest_chunks, manifest_pieces}
use Rattle.stored_streams.specs.Whole.{IsChunkWith, IsManifestWhole, HasRecords, IsWhole}
use Rattle.stored_streams.proofs.CollisionLaws.{text_stays}
use Rattle.stored_streams.proofs.CommittedLaws.{committed_kept}
use Rattle.stored_streams.proofs.PlanLaws.{places_newest, places_stay, laid_own, laid_other, end_other}
use Rattle.whole_objects.proofs.LaidLaws.{laid_there, laid_below, laid_from, session_laid}

-- what is known of the entries before
record IsKnown (n : Numbers) (streams : Streams) (rules : Rules) (past : List Entry) (objects : Objects) : Type 0 where
  sound : AreSound n
  legal : is_legal rules past ≡ true
  entries : All IsEntry past
  contents : EachEntry (ContentOf n streams) past
  stored : EachEntry (StoredOf n streams) past
  whole : IsWhole n streams past objects

-- a chunk of a session that began stays one
chunk_more : (n : Numbers) (streams : Streams) (entry : Entry) (past : List Entry) (p : Piece) (bytes : List ℕ) → IsChunkWith n streams past p bytes → IsChunkWith n streams (entry ∷ past) p bytes
chunk_more n streams entry past p bytes c = record { id = c.id; begun = has_older (begins c.id.session) entry past c.begun; chunk = c.chunk; piece_is = c.piece_is }

-- a manifest that was committed before and is live was live before
live_before : (rules : Rules) (entry : Entry) (past : List Entry) (id : ManifestId) → is_legal rules (entry ∷ past) ≡ true → has (commits_manifest id) past ≡ true → is_live id (entry ∷ past) ≡ true → is_live id past ≡ true
unfolding is_live is_closed
live_before rules entry past id legal committed live = elim (cases_Bool (has (closes id.session) past)) [
  | inl closed ↦ elim (cases_Bool (is_live id past)) [
    | inl older ↦ older
    | inr dead ↦ absurd (both_ways _ (never_live rules (entry ∷ []) past id legal closed dead) live)
  ]
  | inr still_open ↦ and_from _ _ committed (or_left _ _ (unfinished_from id.session past (committed_begun rules id past (step rules entry past legal).legal committed) still_open))
]

-- ---- champions of a pending choice

located_one : Numbers → Streams → List Planned → ManifestId → Located
located_one n streams plans id = record { pieces = manifest_pieces n streams id; places = planned_places id plans }

-- each has a place for each piece
champions_placed : (n : Numbers) (streams : Streams) (rules : Rules) (past : List Entry) (objects : Objects) (session : ℕ) → IsKnown n streams rules past objects → All HasPlaces (located_of n streams (pending_champions session past) (plans_of n streams past))
unfolding located_of located_one manifest_pieces
champions_placed n streams rules past objects session known =
    let ids = pending_champions session past in
    let one = located_one n streams (plans_of n streams past) in
    All-from_in HasPlaces (map one ids) (λ m h.
    let from = map_in one m ids h in
    let committed = pending_committed rules session from.0 past known.legal (manifest_listed from.0 ids from.1) in
    let kept = committed_kept n streams rules past from.0 known.sound known.legal known.entries known.contents known.stored committed in
    subst HasPlaces from.2 (kept.count ∙ sym (length-map (manifest_chunks n streams from.0) piece)))

-- where one lists a piece, a chunk with it lies
champion_chunk : (n : Numbers) (streams : Streams) (rules : Rules) (past : List Entry) (objects : Objects) (session : ℕ) (p : Piece) (place : Place) → IsKnown n streams rules past objects → IsListedThere (located_of n streams (pending_champions session past) (plans_of n streams past)) p place → IsChunkWith n streams past p (part_of (bytes_of objects (object_text (Container place.container))) place.offset p.len)
unfolding located_of located_one
champion_chunk n streams rules past objects session p place known at =
    let ids = pending_champions session past in
    let one = located_one n streams (plans_of n streams past) in
    let from = map_in one at.manifest ids (in_Contains at.manifest (map one ids) at.there) in
    let live = pending_live rules session from.0 past known.legal (manifest_listed from.0 ids from.1) in
    (known.whole.manifests from.0 live).chunks at.number p place
    (subst (λ (m : Located). slice_get m.pieces at.number ≡ Some p) (sym from.2) at.piece_there)
    (subst (λ (m : Located). slice_get m.places at.number ≡ Some place) (sym from.2) at.place_there)

-- ---- behind a Commit

module _ (n : Numbers) (streams : Streams) (rules : Rules) (author : ℕ) (id : ManifestId) (content text : Name) (chunks bytes fresh fresh_bytes : ℕ) (uses : List ContainerId) (past : List Entry) (objects : Objects) where
  abbrev point : Point
  point = Commit id content text chunks bytes fresh fresh_bytes uses

  abbrev entry : Entry
  entry = made author point

  abbrev now : List Entry
  now = entry ∷ past

  abbrev plans : List Planned
  plans = plans_of n streams past

  abbrev plan : Planned
  plan = next_plan n streams past id plans

  abbrev located : List Located
  located = located_of n streams (pending_champions id.session past) plans

  -- what the law gives
  record IsGiven : Type 0 where
    known : IsKnown n streams rules past objects
    legal : is_legal rules now ≡ true
    held : bytes_of objects (object_text (Manifest id)) ≡ text_of n streams id now
    records : (ordinal : ℕ) → ordinal < containers_of n streams id.session now → HasRecords n streams now objects (record { session = id.session; ordinal = ordinal })

  plans_now : plans_of n streams now ≡ plan ∷ plans
  unfolding plans_of plans_after
  plans_now = refl

  plan_id : plan.id ≡ id
  unfolding next_plan plan_for
  plan_id = refl

  -- the session goes on
  begun : is_legal rules now ≡ true → has (begins id.session) now ≡ true
  begun legal =
      let said = commit_says rules past author id content text chunks bytes fresh fresh_bytes uses (step rules entry past legal).allowed in
      has_older (begins id.session) entry past (unfinished_is id.session past said.unfinished).0

  -- what is laid out for the session has the records of its containers
  held_records : (c : ContainerId) → IsGiven → id.session ≡ c.session → c.ordinal < containers_of n streams id.session now → HasRecords n streams now objects c
  held_records c given same below = subst (HasRecords n streams now objects) (λ i. record { session = same i; ordinal = c.ordinal }) (given.records c.ordinal below)

  -- a chunk that is laid out for the session stands at its place
  laid_stands : (l : Laid) → IsGiven → In l (laid_of id.session (plans_of n streams now)) → part_of (bytes_of objects (object_text (Container l.place.container))) l.place.offset l.chunk.piece.len ≡ l.chunk.bytes
  unfolding containers_of
  laid_stands l given h =
      let are = session_laid n streams now id.session given.known.sound in
      let own : l.place.container.session ≡ id.session = are.sessions l h in
      let below = laid_below id.session (end_of id.session (plans_of n streams now)) (laid_of id.session (plans_of n streams now)) l are h in
      let has = held_records l.place.container given (sym own) below in
      let s = l.place.container.session in
      let there = subst (λ (s : ℕ). In l (laid_of s (plans_of n streams now))) (sym own) h in
      ap (λ (b : List ℕ). part_of b l.place.offset l.chunk.piece.len) has.begins
      ∙ laid_there s (end_of s (plans_of n streams now)) (laid_of s (plans_of n streams now)) has.rest l (session_laid n streams now s given.known.sound) there

  laid_now : (l : Laid) → In l plan.laid → In l (laid_of id.session (plans_of n streams now))
  laid_now l h =
      let own : (plan.id.session == id.session) ≡ true = ap (λ (m : ManifestId). m.session == id.session) plan_id ∙ eq-eqb id.session id.session refl in
      subst (In l) (sym (ap (laid_of id.session) plans_now ∙ laid_own plan id.session plans own)) (in_append_right l (laid_of id.session plans) plan.laid h)

  -- a fresh chunk of the segment
  fresh_chunk : (p : Piece) (place : Place) → IsGiven → IsLaidThere plan.laid p place → IsChunkWith n streams now p (part_of (bytes_of objects (object_text (Container place.container))) place.offset p.len)
  unfolding next_plan plan_for
  fresh_chunk p place given at =
      let l = at.one in
      let h : In l plan.laid = in_Contains l plan.laid at.there in
      let from = laid_from (manifest_chunks n streams id) located (end_of id.session plans) n.room l h in
      let is : IsChunkWith n streams now l.chunk.piece l.chunk.bytes = record {
        id = id;
        begun = begun given.legal;
        chunk = subst (Contains (manifest_chunks n streams id)) (ap (λ (c : Chunk). c.bytes) from.2) (Contains-from_in from.0 (manifest_chunks n streams id) from.1);
        piece_is = ap (λ (c : Chunk). piece c.bytes) (sym from.2) ∙ ap (λ (c : Chunk). c.piece) from.2;
      } in
      let stands = subst (IsChunkWith n streams now l.chunk.piece) (sym (laid_stands l given (laid_now l h))) is in
      subst (λ (q : Place). IsChunkWith n streams now p (part_of (bytes_of objects (object_text (Container q.container))) q.offset p.len)) at.place_is
      (subst (λ (q : Piece). IsChunkWith n streams now q (part_of (bytes_of objects (object_text (Container l.place.container))) l.place.offset q.len)) at.piece_is stands)

  there_chunk : (p : Piece) (place : Place) → IsGiven → LiesThere plan.laid located p place → IsChunkWith n streams now p (part_of (bytes_of objects (object_text (Container place.container))) place.offset p.len)
  there_chunk p place given (inl laid) = fresh_chunk p place given laid
  there_chunk p place given (inr listed) = chunk_more n streams entry past p _ (champion_chunk n streams rules past objects id.session p place given.known listed)

  lies : (k : ℕ) (p : Piece) (place : Place) → IsGiven → slice_get (manifest_pieces n streams id) k ≡ Some p → slice_get plan.places k ≡ Some place → LiesThere plan.laid located p place
  unfolding next_plan plan_for manifest_pieces
  lies k p place given piece_there place_there =
      all-lie (manifest_chunks n streams id) located (end_of id.session plans) n.room (champions_placed n streams rules past objects id.session given.known) k p place piece_there place_there

  places_now : planned_places id (plans_of n streams now) ≡ plan.places
  places_now = ap (planned_places id) plans_now ∙ places_newest id plan plans plan_id

  newest_whole : IsGiven → IsManifestWhole n streams now objects id
  newest_whole given = record {
    text = given.held;
    chunks = λ k p place piece_there place_there.
        there_chunk p place given (lies k p place given piece_there (subst (λ (ps : List Place). slice_get ps k ≡ Some place) places_now place_there));
  }

  -- manifests that were committed before
  older_whole : (m : ManifestId) → IsGiven → commits_manifest m point ≡ false → is_live m now ≡ true → IsManifestWhole n streams now objects m
  unfolding is_live plans_of
  older_whole m given other live =
      let committed : has (commits_manifest m) past ≡ true = elim (has_cases (commits_manifest m) entry past (and_parts _ _ live).0) [
        | inl here ↦ absurd (false≢true (sym other ∙ here))
        | inr older ↦ older
      ] in
      let is = given.known.whole.manifests m (live_before rules entry past m given.legal committed live) in
      record {
        text = is.text ∙ sym (text_stays n streams rules entry past m (step rules entry past given.legal) committed);
        chunks = λ k p place piece_there place_there.
            chunk_more n streams entry past p _ (is.chunks k p place piece_there
            (subst (λ (ps : List Place). slice_get ps k ≡ Some place) (places_stay n streams past m point plans other) place_there));
      }

  each_manifest : (m : ManifestId) → IsGiven → is_live m now ≡ true → IsManifestWhole n streams now objects m
  unfolding commits_manifest
  each_manifest m given live = elim (cases_Bool (commits_manifest m point)) [
    | inl here ↦ subst (IsManifestWhole n streams now objects) (sym (same_manifest-true m id here)) (newest_whole given)
    | inr other ↦ older_whole m given other live
  ]

  -- containers of other sessions
  unfinished_before : (s : ℕ) → is_unfinished s now ≡ true → is_unfinished s past ≡ true
  unfolding begins session_begun closes finishes aborts
  unfinished_before s open_now =
      let parts = unfinished_is s now open_now in
      unfinished_from s past (elim (has_cases (begins s) entry past parts.0) [ inl here ↦ absurd (false≢true here) | inr older ↦ older ]) (has_parts (closes s) entry past parts.1).1

  other_records : (c : ContainerId) → IsGiven → (plan.id.session == c.session) ≡ false → is_unfinished c.session now ≡ true → c.ordinal < containers_of n streams c.session now → HasRecords n streams now objects c
  unfolding containers_of
  other_records c given other open_now below =
      let ends : end_of c.session (plans_of n streams now) ≡ end_of c.session plans = ap (end_of c.session) plans_now ∙ end_other plan c.session plans other in
      let lays : laid_of c.session (plans_of n streams now) ≡ laid_of c.session plans = ap (laid_of c.session) plans_now ∙ laid_other plan c.session plans other in
      let has = given.known.whole.containers c (unfinished_before c.session open_now) (subst (λ (e : ContainerEnd). c.ordinal < e.containers) ends below) in
      record {
        rest = has.rest;
        begins = has.begins ∙ ap (λ (ls : List Laid). container_text c (map (λ (l : Laid). l.chunk) (laid_in c.ordinal ls)) ++ has.rest) (sym lays);
      }

  each_container : (c : ContainerId) → IsGiven → is_unfinished c.session now ≡ true → c.ordinal < containers_of n streams c.session now → HasRecords n streams now objects c
  each_container c given open_now below = elim (cases_Bool (plan.id.session == c.session)) [
    | inl own ↦
        let same : id.session ≡ c.session = ap (λ (m : ManifestId). m.session) (sym plan_id) ∙ eqb-true plan.id.session c.session own in
        held_records c given same (subst (λ (s : ℕ). c.ordinal < containers_of n streams s now) (sym same) below)
    | inr other ↦ other_records c given other open_now below
  ]

  pub whole_committed : AreSound n → is_legal rules now ≡ true → All IsEntry now → IsOfStreams n streams now → IsWhole n streams past objects → bytes_of objects (object_text (Manifest id)) ≡ text_of n streams id now
      → ((ordinal : ℕ) → ordinal < containers_of n streams id.session now → HasRecords n streams now objects (record { session = id.session; ordinal = ordinal }))
      → IsWhole n streams now objects
  whole_committed sound legal entries is whole held records =
      let given : IsGiven = record {
        known = record {
          sound = sound;
          legal = (step rules entry past legal).legal;
          entries = All-tail IsEntry entry past entries;
          contents = is.contents.contents.0;
          stored = is.stored.stored.0;
          whole = whole;
        };
        legal = legal;
        held = held;
        records = records;
      } in
      record {
        manifests = λ m live. each_manifest m given live;
        containers = λ c open_now below. each_container c given open_now below;
      }
