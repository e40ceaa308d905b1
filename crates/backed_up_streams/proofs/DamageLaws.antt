-- A backup over a whole depot meets no damage.
use Rattle.std.proofs.Common.{◌≡◌, ℕ, true, List, [], ◌∷◌, ◌++◌, length, Some, Err, refl, sym, ap, ◌∙◌, subst, inl, append_assoc}
use Rattle.manifest_cache.specs.Cached.{held}
use Rattle.std.specs.List.{All}
use Rattle.ss_base.specs.declared.ids.ManifestId.{ManifestId}
use Rattle.ss_base.specs.declared.profile.Numbers.{Numbers}
use Rattle.ss_base.specs.Ids.{same_manifest, has_manifest}
use Rattle.ss_base.specs.Profile.{AreSound, numbers_of}
use Rattle.ss_base.proofs.SoundLaws.{AreSound-numbers_of}
use Rattle.ss_base.proofs.IdLaws.{same_manifest-self}
use Rattle.ss_base.proofs.MemberLaws.{In, in_any, in_append_right, filter_map_in}
use Rattle.chunk_name.specs.Pieces.{name_of_bytes}
use Rattle.outside.specs.Shelf.{Objects, bytes_of}
use Rattle.outside.specs.Views.{ShelfView, SourceView}
use Rattle.outside.specs.declared.trouble.Trouble.{Trouble}
use Rattle.outside.specs.declared.trouble.Trouble.TheVariants as trouble
use Rattle.segment_reader.specs.SegmentsOf.{segments_of}
use Rattle.segment_reader.specs.declared.fault.NextFault.{NextFault}
use Rattle.segment_reader.specs.declared.fault.NextFault.TheVariants as next
use Rattle.journal_entry.specs.declared.entry.Entry.{Entry}
use Rattle.journal_entry.specs.declared.entry.Point.TheVariants.{Begin, Abort}
use Rattle.journal_entry.specs.Bounds.{IsEntry}
use Rattle.history.specs.declared.rules.Rules.{Rules}
use Rattle.history.specs.Legal.{is_legal}
use Rattle.history.specs.Need.{is_live}
use Rattle.history.specs.Sessions.{has}
use Rattle.history_laws.proofs.LiveLaws.{pending_live}
use Rattle.store_core.specs.declared.fault.BeginFault.{BeginFault}
use Rattle.store_core.specs.declared.fault.BeginFault.TheVariants as begin
use Rattle.store_core.specs.declared.fault.PointFault.{PointFault}
use Rattle.store_core.specs.declared.fault.PointFault.TheVariants as point
use Rattle.store_core.specs.View.{KeptView, kept, all_kept, made, past_of}
use Rattle.depot.specs.declared.fault.BackupFault.{BackupFault}
use Rattle.depot.specs.declared.fault.LoadFault.{LoadFault}
use Rattle.depot.specs.declared.fault.LoadFault.TheVariants.{Shelf, Damaged, Unlike, Memory}
use Rattle.depot.specs.Loading.{IsLike, LoadAnswer}
use Rattle.history_calls.specs.Tokens.{IdleView, ChosenView}
use Rattle.history_calls.specs.SessionSteps.{HasAbortedChosen}
use Rattle.segment_store.specs.Loads.{after_loads, IsStopped, Entries}
use Rattle.session.specs.Backup.{input_view, HasStarted, HasNotStarted, BackupAnswer}
use Rattle.session.specs.Backup.HasNotStarted.{unasked, absent, unbegun}
use Rattle.session.specs.Backup.HasNotBackedUp.{not_started, given_up}
use Rattle.session.specs.Causes.{of_input, of_depot, of_begin, of_point, of_next, of_load}
use Rattle.session.specs.Runs.{HasFailedStream}
use Rattle.session.specs.Runs.HasStoppedStream.{reading, storing}
use Rattle.session.specs.Runs.HasFailedStream.{unread, stopped}
use Rattle.session.specs.Stops.{NotStoredFor, HasGivenUpChosen, HasGivenUp}
use Rattle.session.specs.Stops.NotStoredFor.{not_tried, not_loaded, not_stored}
use Rattle.session.specs.Stops.HasGivenUpChosen.{unstored, uncommitted}
use Rattle.session.specs.Stops.HasGivenUp.{unsampled, unchosen, behind}
use Rattle.session.specs.Stores.{Reached, at_start, Progress}
use Rattle.stored_streams.specs.Streams.{Streams, manifest_pieces}
use Rattle.stored_streams.specs.Plans.{Planned, planned_places, plans_of, text_of}
use Rattle.stored_streams.specs.OfStreams.{IsOfStreams}
use Rattle.stored_streams.specs.Whole.{IsWhole}
use Rattle.stored_streams.proofs.CommittedLaws.{committed_kept, committed_manifest, kept_counts, kept_stored}
use Rattle.backed_up_streams.specs.NoDamage.{TellsNoDamage}
use Rattle.backed_up_streams.specs.OfInput.{IsOfInput}
use Rattle.backed_up_streams.proofs.AloneLaws.{alone, is_chosen_at, aborted_chosen}
use Rattle.backed_up_streams.proofs.BackupLaws.{backup-has, failed-of_input}
use Rattle.backed_up_streams.proofs.KeptLaws.{kept_there}
use Rattle.backed_up_streams.proofs.LeftLaws.{loads_held}
use Rattle.backed_up_streams.proofs.LoadLaws.{live_committed, IsTelling}
use Rattle.backed_up_streams.proofs.StreamLaws.{StandsSo, WaitsSo, waits_so, segments-so}
use Rattle.backed_up_streams.proofs.RunLaws.{start, front_of}
use Rattle.backed_up_streams.proofs.WholeLaws.{IsAllowed, allowed_before, Facts, WholeSo, planned_text, given_planned}
use Rattle.backed_up_streams.proofs.WholeBackupLaws.{ToldIs, AllowedIs, tells, at_first}

-- ---- faults that tell of no damage

input_tells : (cause : Trouble) → TellsNoDamage (of_input cause)
input_tells trouble.Fault = tt
input_tells trouble.Memory = tt

depot_tells : (cause : Trouble) → TellsNoDamage (of_depot cause)
depot_tells trouble.Fault = tt
depot_tells trouble.Memory = tt

begin_tells : (cause : BeginFault) → TellsNoDamage (of_begin cause)
begin_tells begin.Taken = tt
begin_tells begin.Full = tt
begin_tells begin.Memory = tt

point_tells : (cause : PointFault) → TellsNoDamage (of_point cause)
point_tells point.Full = tt
point_tells point.Memory = tt

next_tells : (cause : NextFault) → TellsNoDamage (of_next cause)
next_tells next.Fault = tt
next_tells next.TooLong = tt
next_tells next.Memory = tt

unstarted_tells : (standings champions : ℕ) (files : ShelfView) (input name : List ℕ) (before after : IdleView) (fault : BackupFault) → HasNotStarted alone standings champions files input name before after fault → TellsNoDamage fault
unstarted_tells standings champions files input name before after fault (unasked cause is same) = subst TellsNoDamage (sym is) (input_tells cause)
unstarted_tells standings champions files input name before after fault (absent is not_there same) = subst TellsNoDamage (sym is) tt
unstarted_tells standings champions files input name before after fault (unbegun cause is there has) = subst TellsNoDamage (sym is) (begin_tells cause)

module _ (n : Numbers) (sound : AreSound n) (rules : Rules) (streams : Streams) (older : List Entry) (author session : ℕ) (first : Objects) where
  abbrev Told : List (List ℕ) → List Entry → List Planned → ShelfView → Type 0
  Told = WholeSo n sound rules streams older author session first

  abbrev Allowed : List Entry → Type 0
  Allowed = IsAllowed n sound rules streams older author session first

  abbrev FactsOf : List Entry → List Planned → Objects → Type 0
  FactsOf = Facts n sound rules streams older author session first

  -- ---- a load of a live manifest, in whole objects

  module _ (past : List Entry) (plans : List Planned) (now : Objects) (allowed : Allowed past) (facts : FactsOf past plans now) where
    -- what its Commit kept is like what was planned, and so is the digest
    record IsRight (view : KeptView) : Type 0 where
      like : IsLike view (manifest_pieces n streams view.id) (planned_places view.id (plans_of n streams past))
      digest : view.text ≡ name_of_bytes (text_of n streams view.id past)

    is_right : (view : KeptView) → is_live view.id past ≡ true → kept view.id past ≡ Some view → IsRight view
    is_right view live kept_is =
        let id = view.id in
        let committed = live_committed id past live in
        let contents = facts.of_streams.contents.contents in
        let texts = facts.of_streams.stored.stored in
        let is = committed_kept n streams rules past id sound allowed.legal allowed.entries contents texts committed in
        let stored = kept_stored n streams past id view contents texts committed kept_is in
        let both : Some view ≡ Some is.view = sym kept_is ∙ is.kept_is in
        let same : view ≡ is.view = cc in
        record {
          like = record {
            manifest = committed_manifest n streams past id sound is;
            content = sym stored.content;
            chunks = sym (kept_counts n streams past id view contents committed kept_is);
            uses = stored.uses;
          };
          digest = ap (λ (v : KeptView). v.text) same ∙ is.digest;
        }

    load_tells : (shelf after : ShelfView) (view : KeptView) (why : LoadFault) → is_live view.id past ≡ true → kept view.id past ≡ Some view → shelf.held ≡ Some now → LoadAnswer shelf after view (Err why) → TellsNoDamage (of_load why)
    load_tells shelf after view Shelf live kept_is held answer = tt
    load_tells shelf after view (Damaged want got) live kept_is held answer =
        let right = is_right view live kept_is in
        let bytes = given_planned n sound rules streams older author session first past plans now shelf view answer.bytes allowed facts live kept_is held answer.given.told in
        answer.differ (answer.kept_is ∙ right.digest ∙ ap name_of_bytes (sym bytes) ∙ sym answer.given_is)
    load_tells shelf after view (Unlike text) live kept_is held answer =
        let right = is_right view live kept_is in
        let bytes = given_planned n sound rules streams older author session first past plans now shelf view answer.bytes allowed facts live kept_is held answer.given.told in
        let planned = planned_text n sound rules streams older author session first past view.id (plans_of n streams past) refl in
        answer.none (manifest_pieces n streams view.id) (planned_places view.id (plans_of n streams past)) right.like (sym planned ∙ sym bytes)
    load_tells shelf after view Memory live kept_is held answer = tt

    -- and of a list of them
    stopped_tells : (cache cache' : Entries) (shelf after : ShelfView) (ids : List ManifestId) (why : LoadFault) → ((id : ManifestId) → In id ids → is_live id past ≡ true) → shelf.held ≡ Some now → IsStopped cache cache' shelf after (all_kept ids past) why → TellsNoDamage (of_load why)
    stopped_tells cache cache' shelf after ids why live is_held stop =
        let view = stop.kept in
        let there : In view (all_kept ids past) = subst (λ (ks : List KeptView). In view ks) (sym stop.kepts_are) (in_append_right view stop.done (view ∷ stop.rest) (inl refl)) in
        let (id, listed, is) = filter_map_in (λ (i : ManifestId). kept i past) view ids there in
        let own = kept_there id past (live_committed id past (live id listed)) in
        let both : Some view ≡ Some own.view = sym is ∙ own.kept_is in
        let same : view ≡ own.view = cc in
        let id_is : view.id ≡ id = ap (λ (v : KeptView). v.id) same ∙ own.same in
        load_tells (after_loads (held cache) shelf stop.done stop.manifests) after view why (subst (λ (i : ManifestId). is_live i past ≡ true) (sym id_is) (live id listed)) (ap (λ (i : ManifestId). kept i past) id_is ∙ is)
        (loads_held (held cache) shelf stop.done stop.manifests ∙ is_held) stop.failed

  -- ---- a segment in which a session is given up

  module _ (telling : IsTelling n streams older author session Told Allowed) (standings champions : ℕ) where
    module _ (count : ℕ) (chunks : List (List ℕ)) (room : ℕ) (chosen : ChosenView) (progress : Progress) (at : WaitsSo n streams older author session Told Allowed telling standings champions count chosen progress) where
      abbrev then_past : List Entry
      then_past = at.so.newer ++ older

      champions_live : Allowed (past_of chosen.seen) → (id : ManifestId) → In id at.ids → is_live id then_past ≡ true
      unfolding has_manifest
      champions_live allowed id there =
          subst (λ (p : List Entry). is_live id p ≡ true) at.so.past_is
          (pending_live rules session id (past_of chosen.seen) allowed.legal
          (subst (λ (all : List ManifestId). has_manifest id all ≡ true) (sym at.pending_are) (in_any (same_manifest id) id at.ids there (same_manifest-self id))))

      unstored_tells : (last : Progress) (fault : BackupFault) → Allowed (past_of chosen.seen) → NotStoredFor chunks chosen.choice room progress last fault → TellsNoDamage fault
      unstored_tells last fault allowed (not_tried is same) = subst TellsNoDamage (sym is) tt
      unstored_tells last fault allowed (not_loaded cause is same failed) =
          let allowed_then = subst Allowed at.so.past_is allowed in
          let told = at.so.told in
          let kepts = at.kept ∙ ap (all_kept at.ids) at.so.past_is in
          subst TellsNoDamage (sym is)
          (stopped_tells then_past at.so.plans told.now allowed_then (told.facts allowed_then) progress.cache last.cache progress.shelf last.shelf at.ids cause (champions_live allowed) told.held_is
          (subst (λ (ks : List KeptView). IsStopped progress.cache last.cache progress.shelf last.shelf ks cause) kepts failed))
      unstored_tells last fault allowed (not_stored manifests cause is loaded caches failed) = subst TellsNoDamage (sym is) (depot_tells cause)

      chosen_tells : (after : IdleView) (shelf : ShelfView) (cache : Entries) (fault : BackupFault) → Allowed (past_of after.seen) → HasGivenUpChosen alone standings champions chunks room chosen progress after shelf cache fault → TellsNoDamage fault
      chosen_tells after shelf cache fault allowed (unstored last same not gives) =
          let caller_is = is_chosen_at author session chosen at.same_author at.same_session in
          let is = subst (λ (t : ChosenView). HasAbortedChosen alone standings champions t last.end.containers last.texts after) caller_is gives in
          let added = aborted_chosen standings champions author chosen.seen session chosen.choice last.end.containers last.texts after is in
          unstored_tells last fault
          (allowed_before n sound rules streams older author session first (made author (Abort session last.end.containers last.texts)) (past_of chosen.seen) (subst Allowed added.past allowed)) not
      chosen_tells after shelf cache fault allowed (uncommitted last stored written back cause same is stores refused gives) = subst TellsNoDamage (sym is) (point_tells cause)

    segment_tells : (front rest : List (List (List ℕ))) (chunks : List (List ℕ)) (are : segments_of n (streams session) ≡ front ++ chunks ∷ rest) (before : Reached) (at : StandsSo n streams older author session Told Allowed telling standings champions (length front) before)
        (after : IdleView) (shelf : ShelfView) (cache : Entries) (fault : BackupFault) → Allowed (past_of after.seen) → HasGivenUp alone standings champions chunks before after shelf cache fault → TellsNoDamage fault
    segment_tells front rest chunks are before at after shelf cache fault allowed (unsampled is same gives) = subst TellsNoDamage (sym is) tt
    segment_tells front rest chunks are before at after shelf cache fault allowed (unchosen back cause is same refused gives) = subst TellsNoDamage (sym is) (point_tells cause)
    segment_tells front rest chunks are before at after shelf cache fault allowed (behind chosen chooses gives) =
        let waits = waits_so n streams older author session Told Allowed telling standings champions front rest chunks are before at chosen chooses in
        chosen_tells (length front) chunks (numbers_of before.caller.seen.profile).room chosen before.progress waits after shelf cache fault allowed gives

-- ---- a backup

module _ (standings champions : ℕ) (files : ShelfView) (input name : List ℕ) (before : IdleView) (streams : Streams) (objects : Objects) (told : files.held ≡ Some objects) (depot : ShelfView) (stored : Objects) (depot_told : depot.held ≡ Some stored) (rules : Rules)
    (was : IsOfStreams (numbers_of before.seen.profile) streams (past_of before.seen)) (was_whole : IsWhole (numbers_of before.seen.profile) streams (past_of before.seen) stored) where
  abbrev numbers : Numbers
  numbers = numbers_of before.seen.profile

  abbrev the_past : List Entry
  the_past = past_of before.seen

  module _ (started : HasStarted alone standings champions files input name before) where
    abbrev the_session : ℕ
    the_session = started.caller.session

    abbrev ToldOf : List (List ℕ) → List Entry → List Planned → ShelfView → Type 0
    ToldOf = ToldIs standings champions files input name before streams objects told depot stored depot_told rules was was_whole started

    abbrev AllowedOf : List Entry → Type 0
    AllowedOf = AllowedIs standings champions files input name before streams objects told depot stored depot_told rules was was_whole started

    abbrev tells_of : IsTelling numbers streams the_past before.author the_session ToldOf AllowedOf
    tells_of = tells standings champions files input name before streams objects told depot stored depot_told rules was was_whole started

    first_told : ToldOf [] (made before.author (Begin name (Some the_session)) ∷ []) (plans_of numbers streams the_past) depot
    first_told = at_first standings champions files input name before streams objects told depot stored depot_told rules was was_whole started

    stream_tells : (stream_is : streams the_session ≡ bytes_of objects input) (last : SourceView) (after : IdleView) (depot' : ShelfView) (cache' : Entries) (fault : BackupFault) → AllowedOf (past_of after.seen)
        → HasFailedStream alone standings champions started.caller (input_view files input) last depot [] after depot' cache' fault → TellsNoDamage fault
    stream_tells stream_is last after depot' cache' fault allowed (unread is same_source same_shelf gives) = subst TellsNoDamage (sym is) tt
    stream_tells stream_is last after depot' cache' fault allowed (stopped (reading segments now work end cause is same come ends gives)) = subst TellsNoDamage (sym is) (next_tells cause)
    stream_tells stream_is last after depot' cache' fault allowed (stopped (storing segments chunks work end split all up)) =
        let front = front_of standings champions files input name before streams objects told started ToldOf AllowedOf tells_of depot first_told stream_is work last (segments ++ chunks ∷ []) split in
        let are = front.1 ∙ append_assoc segments (chunks ∷ []) front.0 in
        let begun = start standings champions files input name before streams objects told started ToldOf AllowedOf tells_of depot first_told stream_is in
        let stands = segments-so numbers streams the_past before.author the_session ToldOf AllowedOf tells_of standings champions segments [] (chunks ∷ front.0) (at_start started.caller depot []) end are begun all in
        segment_tells numbers (AreSound-numbers_of before.seen.profile) rules streams the_past before.author the_session stored tells_of standings champions segments front.0 chunks are end stands after depot' cache' fault allowed up

  pub no_damage : (after : IdleView) (depot' : ShelfView) (cache' : Entries) (fault : BackupFault) → BackupAnswer alone standings champions files input name before depot [] after depot' cache' (Err fault)
      → IsOfInput streams the_past (past_of after.seen) (bytes_of objects input) → is_legal rules (past_of after.seen) ≡ true → All IsEntry (past_of after.seen) → TellsNoDamage fault
  no_damage after depot' cache' fault (not_started same has) of_input legal entries = unstarted_tells standings champions files input name before after fault has
  no_damage after depot' cache' fault (given_up started streamed) of_input legal entries =
      let stream_is = failed-of_input standings champions files input name before streams objects told started streamed.last depot [] after depot' cache' fault streamed.failed of_input in
      let contents = backup-has standings champions files input name before streams objects told depot [] after depot' cache' (Err fault) (given_up started streamed) of_input was.contents in
      stream_tells started stream_is streamed.last after depot' cache' fault (record { legal = legal; entries = entries; contents = contents }) streamed.failed
