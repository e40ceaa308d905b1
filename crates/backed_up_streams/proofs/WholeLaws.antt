-- A depot stays whole while a session goes on.
use Rattle.std.proofs.Common.{◌≡◌, ◌≢◌, ℕ, ◌*◌, ◌<◌, ◌≤◌, ◌^◌, true, List, [], ◌∷◌, ◌++◌, length, Option, Some, IfSome, refl, sym, ap, ◌∙◌, subst, inl, inr, arith, append-nil}
use Rattle.std.specs.FinMap as map_of
use Rattle.std.specs.Option.{option_map, unwrap_or}
use Rattle.std.specs.List.{All}
use Rattle.std.proofs.lemmas.Bool.Decides.{eqb_tells}
use Rattle.std.proofs.lemmas.List.{take_all}
use Rattle.std.proofs.lemmas.List.Elements.{All-nil, All-cons, All-head, All-tail}
use Rattle.ss_base.specs.declared.ids.ContainerId.{ContainerId}
use Rattle.ss_base.specs.declared.ids.ManifestId.{ManifestId}
use Rattle.ss_base.specs.declared.ids.Place.{Place}
use Rattle.ss_base.specs.declared.name.Name.{Name}
use Rattle.ss_base.specs.declared.object.Object.{Object}
use Rattle.ss_base.specs.declared.object.Object.TheVariants.{Container, Manifest as ManifestObject}
use Rattle.ss_base.specs.declared.profile.Numbers.{Numbers}
use Rattle.ss_base.specs.ObjectName.{object_text}
use Rattle.ss_base.specs.Profile.{AreSound}
use Rattle.ss_base.proofs.MemberLaws.{In}
use Rattle.manifest_codec.specs.declared.manifest.Manifest.{Manifest}
use Rattle.manifest_codec.specs.Text.{manifest_text}
use Rattle.manifest_codec.proofs.TextLaws.{length-manifest_text}
use Rattle.container_file.specs.declared.container_end.ContainerEnd.{ContainerEnd}
use Rattle.segment_plan.specs.Plan.{Located, laid_against, places_against, end_against, puts_against}
use Rattle.outside.specs.Shelf.{Objects, bytes_of, part_of}
use Rattle.outside.specs.Views.{ShelfView}
use Rattle.outside.proofs.ObjectLaws.{bytes_of-insert_same, bytes_of-insert_other}
use Rattle.journal_entry.specs.declared.entry.Entry.{Entry}
use Rattle.journal_entry.specs.declared.entry.Point.TheVariants.{Choose, Commit}
use Rattle.journal_entry.specs.Bounds.{IsEntry, FitsManifest}
use Rattle.history.specs.declared.rules.Rules.{Rules}
use Rattle.history.specs.Legal.{is_legal}
use Rattle.history.specs.Need.{is_live, is_needed}
use Rattle.history.specs.Sessions.{commits_of, pending_champions}
use Rattle.history_laws.proofs.Allowed.{step}
use Rattle.history_laws.proofs.SessionLaws.{committed_below}
use Rattle.store_core.specs.declared.values.Stored.{Stored}
use Rattle.store_core.specs.View.{KeptView, kept, made}
use Rattle.depot.specs.Loading.{IsLoaded}
use Rattle.depot.specs.Storing.{after_puts}
use Rattle.segment_store.specs.Loads.{after_load}
use Rattle.segment_store.specs.Stored.{text_against, after_segment, IsStoredOf}
use Rattle.stored_streams.specs.Streams.{Streams, manifest_chunks, manifest_pieces}
use Rattle.stored_streams.specs.Plans.{Planned, planned_places, located_of, end_of, laid_of, plan_for, next_plan, plans_after, plans_of, text_of, containers_of}
use Rattle.stored_streams.specs.OfStreams.{HasContents, IsOfStreams, StoresSegment}
use Rattle.stored_streams.specs.Loads.{AreLoadsOf}
use Rattle.stored_streams.specs.Whole.{HasRecords, IsWhole}
use Rattle.stored_streams.proofs.CommittedLaws.{committed_kept, committed_manifest, kept_counts}
use Rattle.stored_streams.proofs.LoadLaws.{loads_are, none}
use Rattle.stored_streams.proofs.NameLaws.{same_object_text}
use Rattle.stored_streams.proofs.PlanLaws.{places_newest, laid_own, end_own}
use Rattle.whole_objects.specs.Keeps.{GoesOn, IsNoObject, KeepsWanted, CommitsNothing}
use Rattle.whole_objects.specs.Records.{laid_text, HoldRecords, HoldCommits, ArePut}
use Rattle.whole_objects.proofs.FitLaws.{committed_fits, needed_low, containers_few}
use Rattle.whole_objects.proofs.PutLaws.{container_name, manifest_apart, puts_told}
use Rattle.whole_objects.proofs.RecordLaws.{put-laid}
use Rattle.backed_up_streams.proofs.ContentLaws.{self}
use Rattle.backed_up_streams.proofs.LoadLaws.{text_loaded, commit_point, live_committed, IsTelling, LoadTold}

abbrev manifest_name : ManifestId → List ℕ
manifest_name id = object_text (ManifestObject id)

manifest_of : Object → ManifestId
manifest_of (ManifestObject id) = id
manifest_of (Container id) = record { session = 0; seq = 0 }

-- manifests of different numbers have different names
pub manifests_apart : (one other : ManifestId) → FitsManifest one → FitsManifest other → one ≢ other → manifest_name one ≢ manifest_name other
unfolding manifest_of
manifests_apart one other fits fits_too differ same = differ (ap manifest_of (same_object_text (ManifestObject one) (ManifestObject other) fits fits_too same))

module _ (n : Numbers) (sound : AreSound n) (rules : Rules) (streams : Streams) (older : List Entry) (author session : ℕ) (first : Objects) where
  -- what is asked of a history, so that it is known what the depot holds
  pub record IsAllowed (past : List Entry) : Type 0 where
    pub legal : is_legal rules past ≡ true
    pub entries : All IsEntry past
    pub contents : HasContents n streams past

  pub allowed_before : (entry : Entry) (past : List Entry) → IsAllowed (entry ∷ past) → IsAllowed past
  allowed_before entry past is = record {
    legal = (step rules entry past is.legal).legal;
    entries = All-tail IsEntry entry past is.entries;
    contents = record { contents = is.contents.contents.0; complete = is.contents.complete.0 };
  }

  -- The history stores what the streams say, and the depot is whole, with just the records of the session's commits.
  -- What is no object is as it was at first.
  pub record Facts (past : List Entry) (plans : List Planned) (now : Objects) : Type 0 where
    pub planned : plans ≡ plans_of n streams past
    pub of_streams : IsOfStreams n streams past
    pub whole : IsWhole n streams past now
    pub hold : HoldCommits n streams session past now
    pub others : (name : List ℕ) → IsNoObject name → bytes_of now name ≡ bytes_of first name

  pub record WholeSo (texts : List (List ℕ)) (newer : List Entry) (plans : List Planned) (shelf : ShelfView) : Type 0 where
    pub no_texts : texts ≡ []
    pub now : Objects
    pub held_is : shelf.held ≡ Some now
    pub facts : IsAllowed (newer ++ older) → Facts (newer ++ older) plans now

  -- ---- a load gives what was planned

  read_was : (shelf : ShelfView) (now : Objects) (name text : List ℕ) (max : ℕ) → shelf.held ≡ Some now → IfSome shelf.held (λ (o : Objects). text ≡ part_of (bytes_of o name) 0 max) → text ≡ part_of (bytes_of now name) 0 max
  read_was shelf now name text max is told = subst (λ (held : Option Objects). IfSome held (λ (o : Objects). text ≡ part_of (bytes_of o name) 0 max)) is told

  pub planned_text : (past : List Entry) (id : ManifestId) (plans : List Planned) → plans ≡ plans_of n streams past → text_of n streams id past ≡ manifest_text (manifest_pieces n streams id) (planned_places id plans)
  unfolding text_of
  planned_text past id plans same = ap (λ (ps : List Planned). manifest_text (manifest_pieces n streams id) (planned_places id ps)) (sym same)

  -- what a read of a live manifest's object gave
  pub given_planned : (past : List Entry) (plans : List Planned) (now : Objects) (shelf : ShelfView) (view : KeptView) (text : List ℕ)
      → IsAllowed past → Facts past plans now → is_live view.id past ≡ true → kept view.id past ≡ Some view → shelf.held ≡ Some now
      → IfSome shelf.held (λ (o : Objects). text ≡ part_of (bytes_of o (manifest_name view.id)) 0 (48 * view.chunks))
      → text ≡ text_of n streams view.id past
  given_planned past plans now shelf view text allowed facts live kept_is held told =
      let id = view.id in
      let committed = live_committed id past live in
      let contents = facts.of_streams.contents.contents in
      let is = committed_kept n streams rules past id sound allowed.legal allowed.entries contents facts.of_streams.stored.stored committed in
      let long = length-manifest_text (manifest_pieces n streams id) (planned_places id (plans_of n streams past)) (committed_manifest n streams past id sound is) in
      let count = kept_counts n streams past id view contents committed kept_is in
      let size : length (text_of n streams id past) ≡ 48 * length (manifest_pieces n streams id) = ap length (planned_text past id (plans_of n streams past) refl) ∙ long in
      read_was shelf now (manifest_name id) text (48 * view.chunks) held told
      ∙ ap (λ (bytes : List ℕ). part_of bytes 0 (48 * view.chunks)) ((facts.whole.manifests id live).text)
      ∙ take_all (48 * view.chunks) (text_of n streams id past) (omega (arith, size, count))

  loaded_planned : (past : List Entry) (plans : List Planned) (now : Objects) (shelf : ShelfView) (view : KeptView) (manifest : Manifest)
      → IsAllowed past → Facts past plans now → is_live view.id past ≡ true → kept view.id past ≡ Some view → shelf.held ≡ Some now → IsLoaded shelf (after_load shelf view manifest) view manifest
      → text_loaded manifest ≡ manifest_text (manifest_pieces n streams view.id) (planned_places view.id plans)
  loaded_planned past plans now shelf view manifest allowed facts live kept_is held loaded =
      given_planned past plans now shelf view (text_loaded manifest) allowed facts live kept_is held loaded.given.told
      ∙ planned_text past view.id plans facts.planned

  load_whole : (texts : List (List ℕ)) (newer : List Entry) (plans : List Planned) (shelf : ShelfView) (view : KeptView) (manifest : Manifest)
      → is_live view.id (newer ++ older) ≡ true → kept view.id (newer ++ older) ≡ Some view → IsLoaded shelf (after_load shelf view manifest) view manifest
      → WholeSo texts newer plans shelf → LoadTold n streams older author session WholeSo IsAllowed texts newer plans shelf view manifest
  load_whole texts newer plans shelf view manifest live kept_is loaded so = record {
    gave = texts;
    older_too = λ b there. there;
    told = record { no_texts = so.no_texts; now = so.now; held_is = so.held_is; facts = so.facts };
    source = λ allowed. inr (loaded_planned (newer ++ older) plans so.now shelf view manifest allowed (so.facts allowed) live kept_is so.held_is loaded);
  }

  -- ---- a choice changes nothing

  module _ (behind : (newer past : List Entry) (objects : Objects) → is_legal rules (newer ++ past) ≡ true → All (λ (entry : Entry). CommitsNothing entry.point) newer → IsWhole n streams past objects → IsWhole n streams (newer ++ past) objects) where
    choose_facts : (past : List Entry) (plans : List Planned) (now : Objects) (chosen : List Name) (ids : List ManifestId) → IsAllowed (made author (Choose session chosen ids) ∷ past) → Facts past plans now → Facts (made author (Choose session chosen ids) ∷ past) plans now
    unfolding plans_of plans_after
    choose_facts past plans now chosen ids allowed facts =
        let entry = made author (Choose session chosen ids) in
        record {
          planned = facts.planned;
          of_streams = record {
            contents = allowed.contents;
            stored = record { stored = (facts.of_streams.stored.stored, tt); ends = (facts.of_streams.stored.ends, tt) };
          };
          whole = behind (entry ∷ []) past now allowed.legal (All-cons (λ (e : Entry). CommitsNothing e.point) entry [] tt (All-nil (λ (e : Entry). CommitsNothing e.point))) facts.whole;
          hold = facts.hold;
          others = facts.others;
        }

    choose_whole : (texts : List (List ℕ)) (newer : List Entry) (plans : List Planned) (shelf : ShelfView) (chosen : List Name) (ids : List ManifestId) → WholeSo texts newer plans shelf → WholeSo texts (made author (Choose session chosen ids) ∷ newer) plans shelf
    choose_whole texts newer plans shelf chosen ids so = record {
      no_texts = so.no_texts;
      now = so.now;
      held_is = so.held_is;
      facts = λ allowed. choose_facts (newer ++ older) plans so.now chosen ids allowed (so.facts (allowed_before (made author (Choose session chosen ids)) (newer ++ older) allowed));
    }

    -- ---- a commit

    module _ (keeps : (past : List Entry) (objects now : Objects) → is_legal rules past ≡ true → All IsEntry past → IsOfStreams n streams past → IsWhole n streams past objects → KeepsWanted n streams past objects now → IsWhole n streams past now)
        (commits : (id : ManifestId) (content text : Name) (chunks bytes fresh fresh_bytes : ℕ) (uses : List ContainerId) (past : List Entry) (objects : Objects)
        → let entry = made author (Commit id content text chunks bytes fresh fresh_bytes uses) in
        is_legal rules (entry ∷ past) ≡ true → All IsEntry (entry ∷ past) → IsOfStreams n streams (entry ∷ past) → IsWhole n streams past objects
        → bytes_of objects (object_text (ManifestObject id)) ≡ text_of n streams id (entry ∷ past)
        → ((ordinal : ℕ) → ordinal < containers_of n streams id.session (entry ∷ past) → HasRecords n streams (entry ∷ past) objects (record { session = id.session; ordinal = ordinal }))
        → IsWhole n streams (entry ∷ past) objects) where
      module _ (past : List Entry) (seq : ℕ) (stored : Stored) (counted : commits_of session past ≡ seq) (allowed : IsAllowed (made author (commit_point session seq stored) ∷ past)) (now : Objects) (shelf : ShelfView) (held : shelf.held ≡ Some now) (facts : Facts past (plans_of n streams past) now) where
        abbrev entry : Entry
        entry = made author (commit_point session seq stored)

        abbrev next : ManifestId
        next = record { session = session; seq = seq }

        abbrev plans : List Planned
        plans = plans_of n streams past

        abbrev chunks : List (List ℕ)
        chunks = manifest_chunks n streams next

        abbrev against : List Located
        against = located_of n streams (pending_champions session past) plans

        abbrev end : ContainerEnd
        end = end_of session plans

        abbrev plan : Planned
        plan = next_plan n streams past next plans

        is_before : IsAllowed past
        is_before = allowed_before entry past allowed

        next_fits : FitsManifest next
        next_fits = (All-head IsEntry entry past allowed.entries).point.0

        next_plans : plans_of n streams (entry ∷ past) ≡ plan ∷ plans
        unfolding plans_of plans_after
        next_plans = refl

        plan_end : end_of session (plan ∷ plans) ≡ end_against chunks against end n.room
        unfolding next_plan plan_for
        plan_end = end_own plan session plans (self session)

        plan_laid : laid_of session (plan ∷ plans) ≡ laid_of session plans ++ laid_against chunks against end n.room
        unfolding next_plan plan_for
        plan_laid = laid_own plan session plans (self session)

        plan_places : planned_places next (plan ∷ plans) ≡ places_against chunks against end n.room
        unfolding next_plan plan_for
        plan_places = places_newest next plan plans refl

        module _ (of : IsStoredOf chunks against end n.room stored) (told : Objects) (told_is : (after_puts shelf (puts_against chunks against end n.room)).held ≡ Some told) where
          abbrev text : List ℕ
          text = text_against chunks against end n.room

          abbrev later : Objects
          later = map_of.insert told (manifest_name next) text

          stores_it : StoresSegment n streams next against plans stored.text stored.fresh stored.fresh_bytes stored.uses.items
          unfolding plan_for manifest_pieces
          stores_it = record { fresh_count = of.fresh_count; fresh_sum = of.fresh_len; containers = of.uses; digest = of.text }

          then_of : IsOfStreams n streams (entry ∷ past)
          then_of = record {
            contents = allowed.contents;
            stored = record { stored = (facts.of_streams.stored.stored, stores_it); ends = (facts.of_streams.stored.ends, tt) };
          }

          few : (end_against chunks against end n.room).containers ≤ 2 ^ 32
          few =
              subst (λ (e : ContainerEnd). e.containers ≤ 2 ^ 32) plan_end
              (subst (λ (ps : List Planned). (end_of session ps).containers ≤ 2 ^ 32) next_plans (containers_few n streams (entry ∷ past) allowed.entries then_of.stored.stored session))

          put : ArePut n streams session past chunks against now told
          put =
              let (there, there_is, is) = put-laid n streams session past chunks against shelf now next_fits.0 few held facts.hold in
              subst (λ (o : Option Objects). ArePut n streams session past chunks against now (unwrap_or o told)) (sym there_is ∙ told_is) is

          -- the manifest's name is new, and no container's
          not_next : (id : ManifestId) → is_live id past ≡ true → manifest_name id ≢ manifest_name next
          not_next id live =
              let committed = live_committed id past live in
              manifests_apart id next (committed_fits id past is_before.entries committed) next_fits
              (λ same. let below = committed_below rules id past is_before.legal committed in
              let own = ap (λ (i : ManifestId). commits_of i.session past) same in
              let last = ap (λ (i : ManifestId). i.seq) same in
              absurd (omega (arith, below, own, last, counted)))

          container_same : (id : ContainerId) → bytes_of later (object_text (Container id)) ≡ bytes_of told (object_text (Container id))
          container_same id = bytes_of-insert_other told (manifest_name next) text (object_text (Container id)) (λ same. manifest_apart next id (sym same))

          container_kept : (id : ContainerId) → is_needed id past ≡ true → id.ordinal < containers_of n streams id.session past → GoesOn (bytes_of now (object_text (Container id))) (bytes_of later (object_text (Container id)))
          unfolding containers_of
          container_kept id needed below = elim (eqb_tells id.session session) [
            | inl (tested, own) ↦
                let grown = put.grown id.ordinal (subst (λ (s : ℕ). id.ordinal < containers_of n streams s past) own below) in (
                  grown.0,
                  container_same id
                      ∙ subst (λ (s : ℕ). bytes_of told (container_name s id.ordinal) ≡ bytes_of now (container_name s id.ordinal) ++ grown.0) (sym own) grown.1,
                )
            | inr (tested, differ) ↦ (
              [],
              container_same id ∙ put.others.containers id (needed_low id past is_before.entries needed) differ ∙ sym (append-nil (bytes_of now (object_text (Container id)))),
            )
          ]

          wanted : KeepsWanted n streams past now later
          wanted = record {
            containers = container_kept;
            manifests = λ id live. bytes_of-insert_other told (manifest_name next) text (manifest_name id) (not_next id live) ∙ put.others.manifests id;
          }

          whole_before : IsWhole n streams past later
          whole_before = keeps past now later is_before.legal is_before.entries facts.of_streams facts.whole wanted

          text_there : bytes_of later (manifest_name next) ≡ text_of n streams next (entry ∷ past)
          unfolding text_of manifest_pieces
          text_there =
              bytes_of-insert_same told (manifest_name next) text
              ∙ ap (λ (ps : List Place). manifest_text (manifest_pieces n streams next) ps) (sym plan_places)
              ∙ ap (λ (ps : List Planned). manifest_text (manifest_pieces n streams next) (planned_places next ps)) (sym next_plans)

          hold_then : HoldRecords session (end_of session (plan ∷ plans)).containers (laid_of session (plan ∷ plans)) later
          hold_then ordinal below =
              let id : ContainerId = record { session = session; ordinal = ordinal } in
              container_same id
              ∙ put.records ordinal (subst (λ (e : ContainerEnd). ordinal < e.containers) plan_end below)
              ∙ ap (laid_text id) (sym plan_laid)

          hold_later : HoldCommits n streams session (entry ∷ past) later
          hold_later = subst (λ (ps : List Planned). HoldRecords session (end_of session ps).containers (laid_of session ps) later) (sym next_plans) hold_then

          records_then : (ordinal : ℕ) → ordinal < containers_of n streams session (entry ∷ past) → HasRecords n streams (entry ∷ past) later (record { session = session; ordinal = ordinal })
          unfolding containers_of
          records_then ordinal below =
              let id : ContainerId = record { session = session; ordinal = ordinal } in
              record { rest = []; begins = hold_later ordinal below ∙ sym (append-nil (laid_text id (laid_of session (plans_of n streams (entry ∷ past))))) }

          commit_core : Facts (entry ∷ past) (plan ∷ plans) later
          commit_core = record {
            planned = sym next_plans;
            of_streams = then_of;
            whole = commits next stored.content stored.text stored.chunks stored.bytes stored.fresh stored.fresh_bytes stored.uses.items past later allowed.legal allowed.entries then_of whole_before text_there records_then;
            hold = hold_later;
            others = λ name no_object. bytes_of-insert_other told (manifest_name next) text name (no_object (ManifestObject next)) ∙ put.others.rest name no_object ∙ facts.others name no_object;
          }

      -- the same, whatever chunks, located manifests and plans are known to be these
      module _ (past : List Entry) (seq : ℕ) (stored : Stored) (counted : commits_of session past ≡ seq) (now : Objects) (shelf : ShelfView) (held : shelf.held ≡ Some now) where
        abbrev the_entry : Entry
        the_entry = made author (commit_point session seq stored)

        abbrev the_next : ManifestId
        the_next = record { session = session; seq = seq }

        CommitFacts : List (List ℕ) → List Located → List Planned → Type 0
        CommitFacts cs located plans =
            (told : Objects) → (after_puts shelf (puts_against cs located (end_of session plans) n.room)).held ≡ Some told → IsStoredOf cs located (end_of session plans) n.room stored
            → Facts past plans now → Facts (the_entry ∷ past) (plan_for n streams the_next located plans ∷ plans) (map_of.insert told (manifest_name the_next) (text_against cs located (end_of session plans) n.room))

        commit_facts : IsAllowed (the_entry ∷ past) → (cs : List (List ℕ)) (located : List Located) (plans : List Planned) → manifest_chunks n streams the_next ≡ cs → located ≡ located_of n streams (pending_champions session past) (plans_of n streams past) → plans ≡ plans_of n streams past → CommitFacts cs located plans
        unfolding CommitFacts next_plan
        commit_facts allowed cs located all chunks_are located_is planned =
            subst (λ (ps : List Planned). CommitFacts cs located ps) (sym planned)
            (subst (λ (ls : List Located). CommitFacts cs ls (plans_of n streams past)) (sym located_is)
            (subst (λ (c : List (List ℕ)). CommitFacts c (located_of n streams (pending_champions session past) (plans_of n streams past)) (plans_of n streams past)) chunks_are
            (λ told told_is of facts. commit_core past seq stored counted allowed now shelf held facts of told told_is)))

      located_is : (past : List Entry) (plans : List Planned) (now : Objects) (texts : List (List ℕ)) (located : List Located) → IsAllowed past → Facts past plans now → texts ≡ [] → AreLoadsOf n streams (λ b. In b texts) past plans (pending_champions session past) located → located ≡ located_of n streams (pending_champions session past) (plans_of n streams past)
      located_is past plans now texts located allowed facts no_texts are =
          elim
          (loads_are n streams rules (λ b. ⊥) (λ past. ⊥) (none n streams) past session located
          (record { sound = sound; legal = allowed.legal; entries = allowed.entries; contents = facts.of_streams.contents.contents; stored = facts.of_streams.stored.stored })
          (subst (λ (ps : List Planned). AreLoadsOf n streams (λ b. ⊥) past ps (pending_champions session past) located) facts.planned
          (subst (λ (ts : List (List ℕ)). AreLoadsOf n streams (λ b. In b ts) past plans (pending_champions session past) located) no_texts are))) [ inl same ↦ same | inr bad ↦ absurd bad ]

      commit_whole : (texts : List (List ℕ)) (newer : List Entry) (plans : List Planned) (shelf : ShelfView) (seq : ℕ) (cs : List (List ℕ)) (located : List Located) (stored : Stored)
          → commits_of session (newer ++ older) ≡ seq
          → manifest_chunks n streams (record { session = session; seq = seq }) ≡ cs
          → IsStoredOf cs located (end_of session plans) n.room stored
          → (IsAllowed (newer ++ older) → AreLoadsOf n streams (λ b. In b texts) (newer ++ older) plans (pending_champions session (newer ++ older)) located)
          → WholeSo texts newer plans shelf
          → WholeSo texts (made author (commit_point session seq stored) ∷ newer) (plan_for n streams (record { session = session; seq = seq }) located plans ∷ plans)
          (after_segment shelf (record { session = session; seq = seq }) cs located (end_of session plans) n.room)
      unfolding CommitFacts
      commit_whole texts newer plans shelf seq cs located stored counted chunks_are of loaded so =
          let past = newer ++ older in
          let next : ManifestId = record { session = session; seq = seq } in
          let text = text_against cs located (end_of session plans) n.room in
          let told = puts_told shelf so.now (puts_against cs located (end_of session plans) n.room) so.held_is in
          record {
            no_texts = so.no_texts;
            now = map_of.insert told.0 (manifest_name next) text;
            held_is = ap (option_map (λ (o : Objects). map_of.insert o (manifest_name next) text)) told.1;
            facts = λ allowed.
                let before = allowed_before (made author (commit_point session seq stored)) past allowed in
                let facts = so.facts before in
                commit_facts past seq stored counted so.now shelf so.held_is allowed cs located plans chunks_are
                (located_is past plans so.now texts located before facts so.no_texts (loaded before)) facts.planned told.0 told.1 of facts;
          }

      pub is_whole_telling : IsTelling n streams older author session WholeSo IsAllowed
      is_whole_telling = record {
        before = allowed_before;
        load = λ texts newer plans shelf view manifest live kept_is loaded so. load_whole texts newer plans shelf view manifest live kept_is loaded so;
        choose = λ texts newer plans shelf chosen ids so. choose_whole texts newer plans shelf chosen ids so;
        commit = λ their_rules texts newer plans shelf seq cs against stored legal counted chunks_are of loaded so. commit_whole texts newer plans shelf seq cs against stored counted chunks_are of loaded so;
      }
