-- A backup leaves a whole depot whole.
use Rattle.std.proofs.Common.{◌≡◌, ◌≢◌, ℕ, ◌<◌, ◌≤◌, ◌^◌, true, false, List, [], ◌∷◌, ◌++◌, Option, None, Some, Result, Ok, Err, refl, sym, ap, ◌∙◌, subst, inl, inr, arith, append-nil}
use Rattle.segment_store.specs.Loads.{Entries}
use Rattle.std.specs.FinMap as map_of
use Rattle.std.specs.List.{All}
use Rattle.std.proofs.lemmas.Bool.{false≢true}
use Rattle.std.proofs.lemmas.Bool.Decides.{eqb_tells}
use Rattle.std.proofs.lemmas.List.Elements.{All-nil, All-cons, All-head}
use Rattle.ss_base.specs.declared.ids.ManifestId.{ManifestId}
use Rattle.ss_base.specs.declared.object.Object.{Object}
use Rattle.ss_base.specs.declared.object.Object.TheVariants.{Container, Manifest as ManifestObject}
use Rattle.ss_base.specs.declared.profile.Numbers.{Numbers}
use Rattle.ss_base.specs.ObjectName.{object_text}
use Rattle.ss_base.specs.Profile.{AreSound}
use Rattle.ss_base.proofs.MemberLaws.{In}
use Rattle.ss_base.proofs.IdLaws.{same_manifest-self}
use Rattle.container_file.specs.declared.container_end.ContainerEnd.{ContainerEnd}
use Rattle.segment_plan.specs.Plan.{Located, end_against, puts_against}
use Rattle.outside.specs.Shelf.{Objects, bytes_of, with_object, without_object, CreateLeaves}
use Rattle.outside.specs.Views.{ShelfView}
use Rattle.outside.proofs.ObjectLaws.{bytes_of-insert_other, bytes_of-remove_other}
use Rattle.journal_entry.specs.declared.entry.Entry.{Entry}
use Rattle.journal_entry.specs.declared.entry.Point.{Point}
use Rattle.journal_entry.specs.declared.entry.Point.TheVariants.{Abort, Commit}
use Rattle.journal_entry.specs.Bounds.{IsEntry, PointFits}
use Rattle.history.specs.declared.rules.Rules.{Rules}
use Rattle.history.specs.Legal.{is_legal}
use Rattle.history.specs.Need.{commits_manifest, is_live}
use Rattle.history.specs.Sessions.{has, commits_of}
use Rattle.history_laws.proofs.SessionLaws.{committed_below}
use Rattle.store_core.specs.View.{made}
use Rattle.depot.specs.Storing.{after_puts}
use Rattle.segment_store.specs.Stored.{text_against}
use Rattle.stored_streams.specs.Streams.{Streams}
use Rattle.stored_streams.specs.Plans.{Planned, end_of, plans_of, containers_of}
use Rattle.stored_streams.specs.OfStreams.{HasContents, IsOfStreams}
use Rattle.stored_streams.specs.Loads.{StoresLoaded}
use Rattle.stored_streams.specs.Whole.{IsWhole}
use Rattle.stored_streams.proofs.LoadLaws.{stores_planned}
use Rattle.stored_streams.proofs.NameLaws.{same_small, small}
use Rattle.whole_objects.specs.Keeps.{IsNoObject, KeepsWanted, CommitsNothing}
use Rattle.whole_objects.proofs.FitLaws.{committed_fits, needed_low, commits_few}
use Rattle.whole_objects.proofs.PutLaws.{container_name, manifest_apart, Grow}
use Rattle.whole_objects.proofs.RecordLaws.{put-laid, put-stopped}
use Rattle.backed_up_streams.proofs.LeftLaws.{HasPutSome, IsLeft}
use Rattle.backed_up_streams.proofs.LeftLaws.HasPutSome.{stopped, unwritten, all_done}
use Rattle.backed_up_streams.proofs.LeftLaws.IsLeft.{untouched, put_some}
use Rattle.backed_up_streams.proofs.LoadLaws.{live_committed, IsTelling, HasEnded}
use Rattle.backed_up_streams.proofs.WholeLaws.{IsAllowed, allowed_before, Facts, WholeSo}
use Rattle.ss_base.specs.Profile.{numbers_of}
use Rattle.ss_base.proofs.SoundLaws.{AreSound-numbers_of}
use Rattle.journal_entry.specs.declared.entry.Point.TheVariants.{Begin}
use Rattle.history.specs.Sessions.{commits}
use Rattle.store_core.specs.View.{past_of}
use Rattle.depot.specs.declared.fault.BackupFault.{BackupFault}
use Rattle.history_calls.specs.Tokens.{IdleView}
use Rattle.history_calls.proofs.TurnLaws.{begun_open}
use Rattle.session.specs.Backup.{HasStarted, BackupAnswer}
use Rattle.session.specs.Backup.HasNotBackedUp.{not_started, given_up}
use Rattle.stored_streams.specs.OfStreams.{StoresNothing}
use Rattle.stored_streams.specs.Plans.{plans_after}
use Rattle.stored_streams.proofs.StayLaws.{of_streams_stays}
use Rattle.whole_objects.proofs.EntryLaws.{whole_behind}
use Rattle.whole_objects.proofs.KeepLaws.{whole_kept}
use Rattle.whole_objects.proofs.CommitLaws.{whole_committed}
use Rattle.backed_up_streams.specs.WholeThen.{IsWholeThen}
use Rattle.backed_up_streams.specs.OfInput.{IsOfInput}
use Rattle.backed_up_streams.proofs.AloneLaws.{alone}
use Rattle.backed_up_streams.proofs.BackupLaws.{begin_steps, backup-has, finished-of_input, failed-of_input}
use Rattle.backed_up_streams.proofs.KeptLaws.{end_at_first}
use Rattle.backed_up_streams.proofs.RunLaws.{finished-run, failed-run}
use Rattle.backed_up_streams.proofs.UnstartedLaws.{AddsNoSession, unstarted-adds}
use Rattle.backed_up_streams.proofs.WholeLaws.{is_whole_telling}

abbrev manifest_name : ManifestId → List ℕ
manifest_name id = object_text (ManifestObject id)

manifest_of : Object → ManifestId
manifest_of (ManifestObject id) = id
manifest_of (Container id) = record { session = 0; seq = 0 }

-- an entry that commits no manifest commits nothing
nothing_committed : (point : Point) → ((id : ManifestId) → commits_manifest id point ≡ false) → CommitsNothing point
unfolding commits_manifest
nothing_committed (Commit id content text chunks bytes fresh fresh_bytes uses) none = absurd (false≢true (sym (none id) ∙ same_manifest-self id))
nothing_committed _ none = tt

module _ (n : Numbers) (sound : AreSound n) (rules : Rules) (streams : Streams) (older : List Entry) (author session : ℕ) (first : Objects)
    (keeps : (past : List Entry) (objects now : Objects) → is_legal rules past ≡ true → All IsEntry past → IsOfStreams n streams past → IsWhole n streams past objects → KeepsWanted n streams past objects now → IsWhole n streams past now)
    (behind : (newer past : List Entry) (objects : Objects) → is_legal rules (newer ++ past) ≡ true → All (λ (entry : Entry). CommitsNothing entry.point) newer → IsWhole n streams past objects → IsWhole n streams (newer ++ past) objects) where
  abbrev Told : List (List ℕ) → List Entry → List Planned → ShelfView → Type 0
  Told = WholeSo n sound rules streams older author session first

  abbrev Allowed : List Entry → Type 0
  Allowed = IsAllowed n sound rules streams older author session first

  abbrev FactsOf : List Entry → List Planned → Objects → Type 0
  FactsOf = Facts n sound rules streams older author session first

  -- ---- what is left of a segment that was not committed

  module _ (past : List Entry) (allowed : Allowed past) (count : ℕ) (counted : commits_of session past ≡ count) (low : session < 2 ^ 32) where
    abbrev next : ManifestId
    next = record { session = session; seq = count }

    -- its manifest's name is that of no live one
    not_next : (id : ManifestId) → is_live id past ≡ true → manifest_name id ≢ manifest_name next
    unfolding manifest_of
    not_next id live same =
        let committed = live_committed id past live in
        let few = commits_few rules session past allowed.legal allowed.entries in
        let fits = committed_fits id past allowed.entries committed in
        let below = committed_below rules id past allowed.legal committed in
        let is_next : id ≡ next = ap manifest_of (same_small (ManifestObject id) (ManifestObject next) (small (ManifestObject id) fits) (omega (arith, low), omega (arith, few, counted)) same) in
        let own = ap (λ (i : ManifestId). commits_of i.session past) is_next in
        let last = ap (λ (i : ManifestId). i.seq) is_next in
        absurd (omega (arith, below, own, last, counted))

    -- what grew, and then a change of its manifest's object alone, keep what is wanted
    keeps_wanted : (now told later : Objects) → Grow session (containers_of n streams session past) now told → ((q : List ℕ) → q ≢ manifest_name next → bytes_of later q ≡ bytes_of told q) → KeepsWanted n streams past now later
    keeps_wanted now told later grow others = record {
      containers = λ id needed below.
          let same = others (object_text (Container id)) (λ is. manifest_apart next id (sym is)) in
          elim (eqb_tells id.session session) [
            | inl (tested, own) ↦
                let grown = grow.grown id.ordinal (subst (λ (s : ℕ). id.ordinal < containers_of n streams s past) own below) in
                (grown.0, same ∙ subst (λ (s : ℕ). bytes_of told (container_name s id.ordinal) ≡ bytes_of now (container_name s id.ordinal) ++ grown.0) (sym own) grown.1)
            | inr (tested, differ) ↦ ([], same ∙ grow.others.containers id (needed_low id past allowed.entries needed) differ ∙ sym (append-nil (bytes_of now (object_text (Container id)))))
          ];
      manifests = λ id live. others (manifest_name id) (not_next id live) ∙ grow.others.manifests id;
    }

    record IsKeptThen (now : Objects) (after : ShelfView) : Type 0 where
      later : Objects
      held_is : after.held ≡ Some later
      wanted : KeepsWanted n streams past now later
      others : (name : List ℕ) → IsNoObject name → bytes_of later name ≡ bytes_of now name

    create_left : (now told : Objects) (text : List ℕ) (before after : ShelfView) → Grow session (containers_of n streams session past) now told → before.held ≡ Some told → CreateLeaves before.held after.held (manifest_name next) text → IsKeptThen now after
    create_left now told text before after grow held (inl same) = record { later = told; held_is = same ∙ held; wanted = keeps_wanted now told told grow (λ q differ. refl); others = grow.others.rest }
    create_left now told text before after grow held (inr (inl (front, back, text_is, made_it))) = record {
      later = map_of.insert told (manifest_name next) front;
      held_is = made_it ∙ ap (λ (h : Option Objects). with_object h (manifest_name next) front) held;
      wanted = keeps_wanted now told (map_of.insert told (manifest_name next) front) grow (λ q differ. bytes_of-insert_other told (manifest_name next) front q differ);
      others = λ name none. bytes_of-insert_other told (manifest_name next) front name (none (ManifestObject next)) ∙ grow.others.rest name none;
    }
    create_left now told text before after grow held (inr (inr gone)) = record {
      later = map_of.remove told (manifest_name next);
      held_is = gone ∙ ap (λ (h : Option Objects). without_object h (manifest_name next)) held;
      wanted = keeps_wanted now told (map_of.remove told (manifest_name next)) grow (λ q differ. bytes_of-remove_other told (manifest_name next) q differ);
      others = λ name none. bytes_of-remove_other told (manifest_name next) name (none (ManifestObject next)) ∙ grow.others.rest name none;
    }

    module _ (now : Objects) (before : ShelfView) (held : before.held ≡ Some now) (facts : FactsOf past (plans_of n streams past) now) (chunks : List (List ℕ)) (against : List Located) (few : (end_against chunks against (end_of session (plans_of n streams past)) n.room).containers ≤ 2 ^ 32) where
      record IsPutThen : Type 0 where
        told : Objects
        held_is : (after_puts before (puts_against chunks against (end_of session (plans_of n streams past)) n.room)).held ≡ Some told
        grow : Grow session (containers_of n streams session past) now told

      put_then : IsPutThen
      unfolding containers_of
      put_then =
          let (told, held_is, put) = put-laid n streams session past chunks against before now low few held facts.hold in
          record { told = told; held_is = held_is; grow = record { others = put.others; grown = put.grown } }

      left_so : (written : ℕ) (after : ShelfView) → HasPutSome next chunks against (end_of session (plans_of n streams past)) n.room written before after → IsKeptThen now after
      unfolding containers_of
      left_so written after (stopped trouble least failed) =
          let grown = put-stopped n streams session past chunks against before now low after trouble few held failed in
          record { later = grown.now; held_is = grown.held_is; wanted = keeps_wanted now grown.now grown.now grown.grow (λ q differ. refl); others = grown.grow.others.rest }
      left_so written after (unwritten trouble least failed) =
          let put = put_then in
          create_left now put.told (text_against chunks against (end_of session (plans_of n streams past)) n.room) (after_puts before (puts_against chunks against (end_of session (plans_of n streams past)) n.room)) after put.grow put.held_is failed.objects
      left_so written after (all_done least done) =
          let put = put_then in
          let text = text_against chunks against (end_of session (plans_of n streams past)) n.room in
          let made_then = after_puts before (puts_against chunks against (end_of session (plans_of n streams past)) n.room) in
          record {
            later = map_of.insert put.told (manifest_name next) text;
            held_is = ap (λ (s : ShelfView). s.held) done ∙ ap (λ (h : Option Objects). with_object h (manifest_name next) text) put.held_is;
            wanted = keeps_wanted now put.told (map_of.insert put.told (manifest_name next) text) put.grow (λ q differ. bytes_of-insert_other put.told (manifest_name next) text q differ);
            others = λ name none. bytes_of-insert_other put.told (manifest_name next) text name (none (ManifestObject next)) ∙ put.grow.others.rest name none;
          }

  -- ---- how a session ends

  abort_low : (last : Entry) (containers written : ℕ) → IsEntry last → last ≡ made author (Abort session containers written) → (session < 2 ^ 32) × (containers < 2 ^ 32)
  abort_low last containers written is same = let fits = subst (λ (e : Entry). PointFits e.point) same is.point in (fits.0, fits.1)

  module _ (telling : IsTelling n streams older author session Told Allowed) (past : List Entry) (after : ShelfView) (ended : HasEnded n streams older author session Told Allowed telling past after) (allowed : Allowed past) (was : IsOfStreams n streams older) where
    abbrev before_last : List Entry
    before_last = ended.then_newer ++ older

    allowed_now : Allowed (ended.last ∷ before_last)
    allowed_now = subst Allowed ended.past_is allowed

    facts_then : FactsOf before_last ended.then_plans ended.told.now
    facts_then = ended.told.facts (allowed_before n sound rules streams older author session first ended.last before_last allowed_now)

    loads_now : StoresLoaded n streams ended.loads (λ b. ⊥) (ended.last ∷ ended.then_newer) older
    loads_now = ended.stores allowed_now [] (λ b there. subst (λ (ts : List (List ℕ)). In b ts) ended.told.no_texts there)

    of_now : IsOfStreams n streams (ended.last ∷ before_last)
    of_now = record {
      contents = allowed_now.contents;
      stored = stores_planned n streams rules ended.loads (ended.last ∷ ended.then_newer) older sound allowed_now.legal allowed_now.entries was allowed_now.contents loads_now;
    }

    then_allowed : Allowed before_last
    then_allowed = allowed_before n sound rules streams older author session first ended.last before_last allowed_now

    record IsLater : Type 0 where
      later : Objects
      held_is : after.held ≡ Some later
      whole : IsWhole n streams before_last later
      others : (name : List ℕ) → IsNoObject name → bytes_of later name ≡ bytes_of first name

    left_now : IsLeft n author session ended.count ended.last ended.then_plans ended.then_shelf after → IsLater
    left_now (untouched same closes) = record { later = ended.told.now; held_is = same ∙ ended.told.held_is; whole = facts_then.whole; others = facts_then.others }
    left_now (put_some chunks against written last_is some) =
        let at_plans = subst (λ (ps : List Planned). ended.last ≡ made author (Abort session (end_against chunks against (end_of session ps) n.room).containers written)) facts_then.planned last_is in
        let some_then = subst (λ (ps : List Planned). HasPutSome (record { session = session; seq = ended.count }) chunks against (end_of session ps) n.room written ended.then_shelf after) facts_then.planned some in
        let facts = subst (λ (ps : List Planned). FactsOf before_last ps ended.told.now) facts_then.planned facts_then in
        let low = abort_low ended.last (end_against chunks against (end_of session (plans_of n streams before_last)) n.room).containers written (All-head IsEntry ended.last before_last allowed_now.entries) at_plans in
        let few = low.1 in
        let kept = left_so before_last then_allowed ended.count ended.counted low.0 ended.told.now ended.then_shelf ended.told.held_is facts chunks against (omega (arith, few)) written after some_then in
        record {
          later = kept.later;
          held_is = kept.held_is;
          whole = keeps before_last ended.told.now kept.later then_allowed.legal then_allowed.entries facts.of_streams facts.whole kept.wanted;
          others = λ name none. kept.others name none ∙ facts_then.others name none;
        }

    pub ended-whole : IsWholeThen n streams past first after
    ended-whole =
        let is = left_now ended.left in
        record {
          now = is.later;
          held_is = is.held_is;
          of_streams = subst (IsOfStreams n streams) (sym ended.past_is) of_now;
          whole =
              subst (λ (p : List Entry). IsWhole n streams p is.later) (sym ended.past_is)
              (behind (ended.last ∷ []) before_last is.later allowed_now.legal
              (All-cons (λ (e : Entry). CommitsNothing e.point) ended.last [] (nothing_committed ended.last.point ended.commits_none) (All-nil (λ (e : Entry). CommitsNothing e.point))) is.whole);
          others = is.others;
        }

-- ---- a backup

module _ (standings champions : ℕ) (files : ShelfView) (input name : List ℕ) (before : IdleView) (streams : Streams) (objects : Objects) (told : files.held ≡ Some objects) (depot : ShelfView) (stored : Objects) (depot_told : depot.held ≡ Some stored) (rules : Rules)
    (was : IsOfStreams (numbers_of before.seen.profile) streams (past_of before.seen)) (was_whole : IsWhole (numbers_of before.seen.profile) streams (past_of before.seen) stored) where
  abbrev numbers : Numbers
  numbers = numbers_of before.seen.profile

  abbrev sound_numbers : AreSound numbers
  sound_numbers = AreSound-numbers_of before.seen.profile

  abbrev the_past : List Entry
  the_past = past_of before.seen

  keep : (past : List Entry) (held now : Objects) → is_legal rules past ≡ true → All IsEntry past → IsOfStreams numbers streams past → IsWhole numbers streams past held → KeepsWanted numbers streams past held now → IsWhole numbers streams past now
  keep past held now legal entries of_streams whole wanted = whole_kept numbers streams rules past held now sound_numbers legal entries of_streams whole wanted

  no_commits : (newer past : List Entry) (held : Objects) → is_legal rules (newer ++ past) ≡ true → All (λ (entry : Entry). CommitsNothing entry.point) newer → IsWhole numbers streams past held → IsWhole numbers streams (newer ++ past) held
  no_commits newer past held legal nothing whole = whole_behind numbers streams rules newer past held legal nothing whole

  -- no session began
  added-whole : (after : IdleView) → AddsNoSession standings champions files input name before after → is_legal rules (past_of after.seen) ≡ true → IsWholeThen numbers streams (past_of after.seen) stored depot
  added-whole after (inl same) legal = subst (λ (p : List Entry). IsWholeThen numbers streams p stored depot) (sym same) (record { now = stored; held_is = depot_told; of_streams = was; whole = was_whole; others = λ other_name none. refl })
  added-whole after (inr is) legal =
      let entry = made before.author (Begin name None) in
      subst (λ (p : List Entry). IsWholeThen numbers streams p stored depot) (sym is)
      (record {
        now = stored;
        held_is = depot_told;
        of_streams = of_streams_stays numbers streams (entry ∷ []) the_past (All-cons (λ (e : Entry). StoresNothing e.point) entry [] tt (All-nil (λ (e : Entry). StoresNothing e.point))) was;
        whole =
            no_commits (entry ∷ []) the_past stored (subst (λ (p : List Entry). is_legal rules p ≡ true) is legal)
            (All-cons (λ (e : Entry). CommitsNothing e.point) entry [] tt (All-nil (λ (e : Entry). CommitsNothing e.point))) was_whole;
        others = λ other_name none. refl;
      })

  module _ (started : HasStarted alone standings champions files input name before) where
    abbrev the_session : ℕ
    the_session = started.caller.session

    abbrev begin_it : Entry
    begin_it = made before.author (Begin name (Some the_session))

    abbrev pub ToldIs : List (List ℕ) → List Entry → List Planned → ShelfView → Type 0
    ToldIs = WholeSo numbers sound_numbers rules streams the_past before.author the_session stored

    abbrev pub AllowedIs : List Entry → Type 0
    AllowedIs = IsAllowed numbers sound_numbers rules streams the_past before.author the_session stored

    pub tells : IsTelling numbers streams the_past before.author the_session ToldIs AllowedIs
    tells =
        is_whole_telling numbers sound_numbers rules streams the_past before.author the_session stored no_commits keep
        (λ id content text chunks bytes fresh fresh_bytes uses past held legal entries of_streams whole text_there records. whole_committed numbers streams rules before.author id content text chunks bytes fresh fresh_bytes uses past held sound_numbers legal entries of_streams whole text_there records)

    none_yet : commits_of the_session the_past ≡ 0
    unfolding commits_of commits
    none_yet =
        ap (commits_of the_session) (sym (begin_steps standings champions files input name before streams objects told started).past)
        ∙ (begun_open alone standings champions before.author the_session name before.seen started.caller.seen started.begun.at_turn).commit_count

    first_facts : AllowedIs (begin_it ∷ the_past) → Facts numbers sound_numbers rules streams the_past before.author the_session stored (begin_it ∷ the_past) (plans_of numbers streams the_past) stored
    unfolding plans_of plans_after
    first_facts allowed = record {
      planned = refl;
      of_streams = of_streams_stays numbers streams (begin_it ∷ []) the_past (All-cons (λ (e : Entry). StoresNothing e.point) begin_it [] tt (All-nil (λ (e : Entry). StoresNothing e.point))) was;
      whole = no_commits (begin_it ∷ []) the_past stored allowed.legal (All-cons (λ (e : Entry). CommitsNothing e.point) begin_it [] tt (All-nil (λ (e : Entry). CommitsNothing e.point))) was_whole;
      hold = λ ordinal below. let none = ap (λ (e : ContainerEnd). e.containers) (end_at_first numbers streams the_session the_past none_yet) in absurd (omega (arith, below, none));
      others = λ other_name none. refl;
    }

    pub at_first : ToldIs [] (begin_it ∷ []) (plans_of numbers streams the_past) depot
    at_first = record { no_texts = refl; now = stored; held_is = depot_told; facts = first_facts }

    run-whole : (after : IdleView) (depot' : ShelfView) → HasEnded numbers streams the_past before.author the_session ToldIs AllowedIs tells (past_of after.seen) depot' → AllowedIs (past_of after.seen) → IsWholeThen numbers streams (past_of after.seen) stored depot'
    run-whole after depot' ended allowed =
        ended-whole numbers sound_numbers rules streams the_past before.author the_session stored keep no_commits tells (past_of after.seen) depot' ended allowed was

  pub backup-whole : (after : IdleView) (depot' : ShelfView) (cache' : Entries) (result : Result ℕ BackupFault) → BackupAnswer alone standings champions files input name before depot [] after depot' cache' result
      → IsOfInput streams (past_of before.seen) (past_of after.seen) (bytes_of objects input) → is_legal rules (past_of after.seen) ≡ true → All IsEntry (past_of after.seen) → HasContents numbers streams (past_of after.seen)
      → IsWholeThen numbers streams (past_of after.seen) stored depot'
  backup-whole after depot' cache' (Ok number) has of_input legal entries contents =
      let started = has.started in
      let streamed = has.streamed in
      let stream_is = finished-of_input standings champions files input name before streams objects told started streamed.last depot [] after depot' cache' streamed.finished of_input in
      run-whole started after depot'
      (finished-run standings champions files input name before streams objects told started (ToldIs started) (AllowedIs started) (tells started) depot (at_first started) stream_is streamed.last after depot' cache' streamed.finished)
      (record { legal = legal; entries = entries; contents = contents })
  backup-whole after depot' cache' (Err fault) (not_started same has) of_input legal entries contents =
      subst (λ (d : ShelfView). IsWholeThen numbers streams (past_of after.seen) stored d) (sym same.0) (added-whole after (unstarted-adds standings champions files input name before after fault has) legal)
  backup-whole after depot' cache' (Err fault) (given_up started streamed) of_input legal entries contents =
      let stream_is = failed-of_input standings champions files input name before streams objects told started streamed.last depot [] after depot' cache' fault streamed.failed of_input in
      run-whole started after depot'
      (failed-run standings champions files input name before streams objects told started (ToldIs started) (AllowedIs started) (tells started) depot (at_first started) stream_is streamed.last after depot' cache' fault streamed.failed)
      (record { legal = legal; entries = entries; contents = contents })

pub whole-backup : (standings champions : ℕ) (files : ShelfView) (input name : List ℕ) (before : IdleView) (streams : Streams) (objects : Objects) → files.held ≡ Some objects → (depot : ShelfView) (stored : Objects) → depot.held ≡ Some stored → (rules : Rules) (after : IdleView) (depot' : ShelfView) (cache' : Entries) (result : Result ℕ BackupFault)
    → BackupAnswer alone standings champions files input name before depot [] after depot' cache' result
    → IsOfInput streams (past_of before.seen) (past_of after.seen) (bytes_of objects input) → is_legal rules (past_of after.seen) ≡ true → All IsEntry (past_of after.seen)
    → IsOfStreams (numbers_of before.seen.profile) streams (past_of before.seen) → IsWhole (numbers_of before.seen.profile) streams (past_of before.seen) stored
    → IsWholeThen (numbers_of before.seen.profile) streams (past_of after.seen) stored depot'
whole-backup standings champions files input name before streams objects told depot stored depot_told rules after depot' cache' result has of_input legal entries was whole =
    backup-whole standings champions files input name before streams objects told depot stored depot_told rules was whole after depot' cache' result has of_input legal entries
    (backup-has standings champions files input name before streams objects told depot [] after depot' cache' result has of_input was.contents)
