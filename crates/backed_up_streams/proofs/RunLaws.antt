-- What a whole backup stores against what was loaded.
use Rattle.std.proofs.Common.{◌≡◌, ℕ, List, [], ◌∷◌, ◌++◌, length, Some, refl, sym, ap, ◌∙◌, subst, append_assoc}
use Rattle.segment_store.specs.Loads.{Entries}
use Rattle.std.proofs.lemmas.List.{append-nil}
use Rattle.ss_base.specs.declared.profile.Numbers.{Numbers}
use Rattle.ss_base.specs.Profile.{numbers_of}
use Rattle.segment_reader.specs.SegmentsOf.{segments_of}
use Rattle.segment_reader.specs.WorkState.{WorkState}
use Rattle.outside.specs.Shelf.{Objects, bytes_of}
use Rattle.outside.specs.Views.{ShelfView, SourceView}
use Rattle.journal_entry.specs.declared.entry.Entry.{Entry}
use Rattle.journal_entry.specs.declared.entry.Point.TheVariants.{Begin}
use Rattle.history.specs.Sessions.{commits_of}
use Rattle.store_core.specs.View.{past_of, made}
use Rattle.depot.specs.declared.fault.BackupFault.{BackupFault}
use Rattle.history_calls.specs.Tokens.{IdleView}
use Rattle.history_calls.proofs.TurnLaws.{begun_open}
use Rattle.session.specs.Split.{HasSplit, HasGivenAll}
use Rattle.session.specs.Stores.{at_start, no_end}
use Rattle.session.specs.Runs.{HasFinishedStream, HasFailedStream}
use Rattle.session.specs.Runs.HasStoppedStream.{reading, storing}
use Rattle.session.specs.Runs.HasFailedStream.{unread, stopped}
use Rattle.session.specs.Backup.{input_view, HasStarted}
use Rattle.stored_streams.specs.Streams.{Streams}
use Rattle.stored_streams.specs.Plans.{Planned, plans_of}
use Rattle.backed_up_streams.proofs.AloneLaws.{alone}
use Rattle.job_entries.proofs.InputLaws.{input-whole, input-front}
use Rattle.backed_up_streams.proofs.BackupLaws.{begin_steps, is_n}
use Rattle.backed_up_streams.proofs.LoadLaws.{IsTelling, IsSoFar, HasEnded, start_so_far}
use Rattle.backed_up_streams.proofs.StreamLaws.{StandsSo, open-ended, finish-ended, segment-ended, segments-so}

module _ (standings champions : ℕ) (files : ShelfView) (input name : List ℕ) (before : IdleView) (streams : Streams) (objects : Objects) (told : files.held ≡ Some objects) (started : HasStarted alone standings champions files input name before) where
  abbrev pub the_numbers : Numbers
  the_numbers = numbers_of before.seen.profile

  abbrev pub the_older : List Entry
  the_older = past_of before.seen

  abbrev pub the_session : ℕ
  the_session = started.caller.session

  abbrev pub the_begin : Entry
  the_begin = made before.author (Begin name (Some the_session))

  module _ (Told : List (List ℕ) → List Entry → List Planned → ShelfView → Type 0) (Allowed : List Entry → Type 0) (telling : IsTelling the_numbers streams the_older before.author the_session Told Allowed) (depot : ShelfView) (at_first : Told [] (the_begin ∷ []) (plans_of the_numbers streams the_older) depot)
      (stream_is : streams the_session ≡ bytes_of objects input) where
    abbrev pub Ended : List Entry → ShelfView → Type 0
    Ended = HasEnded the_numbers streams the_older before.author the_session Told Allowed telling

    begins_with : past_of started.caller.seen ≡ the_begin ∷ the_older
    begins_with = (begin_steps standings champions files input name before streams objects told started).past

    numbers_same : numbers_of started.caller.seen.profile ≡ the_numbers
    numbers_same = is_n standings champions files input name before streams objects told started

    pub start : StandsSo the_numbers streams the_older before.author the_session Told Allowed telling standings champions 0 (at_start started.caller depot [])
    start = record {
      same_author = started.begun.author;
      same_session = refl;
      same_numbers = numbers_same;
      texts_are = refl;
      so =
          subst (λ (p : List Entry). IsSoFar the_numbers streams the_older before.author the_session Told Allowed telling 0 p depot (no_end the_session) []) (sym begins_with)
          (start_so_far the_numbers streams the_older before.author the_session Told Allowed telling name depot
          (ap (commits_of the_session) (sym begins_with) ∙ (begun_open alone standings champions before.author the_session name before.seen started.caller.seen started.begun.at_turn).commit_count)
          at_first);
    }

    whole_of : (segments : List (List (List ℕ))) → segments_of the_numbers (bytes_of objects input) ≡ segments → segments_of the_numbers (streams the_session) ≡ segments
    whole_of segments are = ap (segments_of the_numbers) stream_is ∙ are

    pub front_of : (work : WorkState) (last : SourceView) (segments : List (List (List ℕ))) → HasSplit (numbers_of started.caller.seen.profile) (input_view files input) last work segments
        → (rest : List (List (List ℕ))) × (segments_of the_numbers (streams the_session) ≡ segments ++ rest)
    front_of work last segments split =
        let front = input-front the_numbers files input objects last told work segments (subst (λ (m : Numbers). HasSplit m (input_view files input) last work segments) numbers_same split) in
        (front.0, whole_of (segments ++ front.0) front.1)

    pub finished-run : (last : SourceView) (after : IdleView) (depot' : ShelfView) (cache' : Entries) → HasFinishedStream alone standings champions started.caller (input_view files input) last depot [] after depot' cache' → Ended (past_of after.seen) depot'
    finished-run last after depot' cache' run =
        let segments = run.stored.segments in
        let given = subst (λ (m : Numbers). HasGivenAll m (input_view files input) last segments) numbers_same run.stored.given in
        let are = whole_of segments (input-whole the_numbers files input objects last told segments given) ∙ sym (append-nil segments) in
        let stands = segments-so the_numbers streams the_older before.author the_session Told Allowed telling standings champions segments [] [] (at_start started.caller depot []) run.last are start run.stored.stored in
        finish-ended the_numbers streams the_older before.author the_session Told Allowed telling standings champions (length segments) run.last stands after depot' run.shelf_is run.finished

    pub failed-run : (last : SourceView) (after : IdleView) (depot' : ShelfView) (cache' : Entries) (fault : BackupFault) → HasFailedStream alone standings champions started.caller (input_view files input) last depot [] after depot' cache' fault → Ended (past_of after.seen) depot'
    failed-run last after depot' cache' fault (unread is same_source same_shelf gives) =
        open-ended the_numbers streams the_older before.author the_session Told Allowed telling standings champions 0 (at_start started.caller depot []) start after depot' same_shelf.0 gives
    failed-run last after depot' cache' fault (stopped (reading segments now work end cause is same come ends gives)) =
        let front = front_of work now segments come.split in
        let stands = segments-so the_numbers streams the_older before.author the_session Told Allowed telling standings champions segments [] front.0 (at_start started.caller depot []) end front.1 start come.stored in
        open-ended the_numbers streams the_older before.author the_session Told Allowed telling standings champions (length segments) end stands after depot' same.0 gives
    failed-run last after depot' cache' fault (stopped (storing segments chunks work end split all up)) =
        let front = front_of work last (segments ++ chunks ∷ []) split in
        let are = front.1 ∙ append_assoc segments (chunks ∷ []) front.0 in
        let stands = segments-so the_numbers streams the_older before.author the_session Told Allowed telling standings champions segments [] (chunks ∷ front.0) (at_start started.caller depot []) end are start all in
        segment-ended the_numbers streams the_older before.author the_session Told Allowed telling standings champions segments front.0 chunks are end stands after depot' cache' fault up
