-- What a backup chooses and commits is of its input.
use Rattle.std.proofs.Common.{◌≡◌, ℕ, Bool, true, false, cond, List, [], ◌∷◌, ◌++◌, length, Some, None, Result, Ok, Err, refl, sym, ap, ◌∙◌, subst, append_assoc}
use Rattle.segment_store.specs.Loads.{Entries}
use Rattle.std.proofs.lemmas.List.{append-nil}
use Rattle.ss_base.specs.declared.profile.Numbers.{Numbers}
use Rattle.ss_base.specs.Profile.{numbers_of}
use Rattle.chunk_name.specs.Pieces.{pieces}
use Rattle.hook_sampler.specs.Hooks.{hooks}
use Rattle.outside.specs.Shelf.{Objects, bytes_of}
use Rattle.outside.specs.Views.{ShelfView, SourceView}
use Rattle.segment_reader.specs.SegmentsOf.{segments_of}
use Rattle.segment_reader.specs.WorkState.{WorkState}
use Rattle.journal_entry.specs.declared.entry.Entry.{Entry}
use Rattle.journal_entry.specs.declared.entry.Point.TheVariants.{Begin, Finish, Abort}
use Rattle.history.specs.Legal.{reply_to_begin}
use Rattle.history.specs.Sessions.{begins, session_begun, has, session_count, is_held}
use Rattle.history_laws.proofs.SessionLaws.{has_now, has_older}
use Rattle.history_laws.proofs.UnfinishedLaws.{next_unbegun}
use Rattle.store_core.specs.declared.fault.BeginFault.{BeginFault}
use Rattle.store_core.specs.declared.fault.BeginFault.TheVariants as begin
use Rattle.store_core.specs.View.{StateView, past_of, rules_of, made}
use Rattle.store_core.specs.Answers.{BeginAnswer}
use Rattle.depot.specs.declared.fault.BackupFault.{BackupFault}
use Rattle.history_calls.specs.Tokens.{IdleView, OpenView, ChosenView}
use Rattle.history_calls.specs.SessionSteps.{HasNotBegun, HasFinished, HasAborted, HasAbortedChosen, HasNotCommitted}
use Rattle.history_calls.proofs.TurnLaws.{begun_open}
use Rattle.session.specs.Split.{HasSplit, HasGivenAll}
use Rattle.session.specs.Stops.{HasGivenUpChosen, HasGivenUp}
use Rattle.session.specs.Stops.HasGivenUpChosen.{unstored, uncommitted}
use Rattle.session.specs.Stops.HasGivenUp.{unsampled, unchosen, behind}
use Rattle.session.specs.Stores.{no_end, Progress}
use Rattle.session.specs.Runs.{HasFinishedStream, HasFailedStream}
use Rattle.session.specs.Runs.HasStoppedStream.{reading, storing}
use Rattle.session.specs.Runs.HasFailedStream.{unread, stopped}
use Rattle.session.specs.Backup.{input_view, HasNotStarted, HasStarted, BackupAnswer}
use Rattle.session.specs.Backup.HasNotStarted.{unasked, absent, unbegun}
use Rattle.session.specs.Backup.HasNotBackedUp.{not_started, given_up}
use Rattle.stored_streams.specs.Streams.{Streams, segment_count}
use Rattle.stored_streams.specs.OfStreams.{HasContents}
use Rattle.backed_up_streams.specs.OfInput.{IsOfInput}
use Rattle.backed_up_streams.proofs.AloneLaws.{alone, open_at, chosen_at, is_open_at, is_chosen_at, Steps, steps, at_seen, legal_at, not_chosen, not_committed, finished, aborted, aborted_chosen}
use Rattle.backed_up_streams.proofs.ContentLaws.{HasCome, WaitsAt, contents_more, self, choice-waits, segments-stand}
use Rattle.job_entries.proofs.InputLaws.{input-whole, input-front}

-- ---- the session that a Begin is given

next_of : (held : Bool) (s n : ℕ) → cond held None (Some n) ≡ Some s → s ≡ n
next_of true s n e = absurd (cc)
next_of false s n e = cc

next_is : (name : List ℕ) (s : ℕ) (past : List Entry) → reply_to_begin name past ≡ Some s → s ≡ session_count past
unfolding reply_to_begin
next_is name s past reply = next_of (is_held name past) s (session_count past) reply

module _ (n : Numbers) (streams : Streams) (older : List Entry) (author session : ℕ) (standings champions : ℕ) where
  -- the history at the end of a session, where its stream has these segments
  pub record EndsSo (whole : List (List (List ℕ))) (after : IdleView) : Type 0 where
    pub begun : has (begins session) (past_of after.seen) ≡ true
    pub contents : segments_of n (streams session) ≡ whole → HasContents n streams older → HasContents n streams (past_of after.seen)

  module _ (whole : List (List (List ℕ))) (count : ℕ) (seen : StateView) (come : HasCome n streams older author session whole count (past_of seen)) (after : IdleView) where
    abort-ends : (containers texts : ℕ) → Steps standings champions author seen after.seen (made author (Abort session containers texts)) → EndsSo whole after
    abort-ends containers texts is = record {
      begun = subst (λ (past : List Entry). has (begins session) past ≡ true) (sym is.past) (has_older (begins session) (made author (Abort session containers texts)) (past_of seen) come.begun);
      contents = λ whole_is older_has.
          subst (HasContents n streams) (sym is.past) (contents_more n streams author (Abort session containers texts) (past_of seen) (come.contents whole_is older_has) tt tt);
    }

    finish-ends : (containers : ℕ) → count ≡ length whole → Steps standings champions author seen after.seen (made author (Finish session containers)) → EndsSo whole after
    unfolding segment_count
    finish-ends containers all is = record {
      begun = subst (λ (past : List Entry). has (begins session) past ≡ true) (sym is.past) (has_older (begins session) (made author (Finish session containers)) (past_of seen) come.begun);
      contents = λ whole_is older_has.
          subst (HasContents n streams) (sym is.past)
          (contents_more n streams author (Finish session containers) (past_of seen) (come.contents whole_is older_has) tt (come.counted ∙ all ∙ sym (ap length whole_is)));
    }

  module _ (whole : List (List (List ℕ))) (count : ℕ) (chunks : List (List ℕ)) (room : ℕ) (chosen : ChosenView) (at : WaitsAt n streams older author session whole standings champions count chosen) (progress : Progress) (after : IdleView) (shelf : ShelfView) (cache : Entries) (fault : BackupFault) where
    chosen_is : chosen ≡ chosen_at author session chosen.seen chosen.choice
    chosen_is = is_chosen_at author session chosen at.same_author at.same_session

    chosen-ends : HasGivenUpChosen alone standings champions chunks room chosen progress after shelf cache fault → EndsSo whole after
    chosen-ends (unstored last same not gives) =
        let is = subst (λ (t : ChosenView). HasAbortedChosen alone standings champions t last.end.containers last.texts after) chosen_is gives in
        abort-ends whole count chosen.seen at.come after last.end.containers last.texts (aborted_chosen standings champions author chosen.seen session chosen.choice last.end.containers last.texts after is)
    chosen-ends (uncommitted last stored written back cause same is stores refused gives) =
        let back_is = not_committed standings champions author chosen.seen session chosen.choice stored back cause
        (subst (λ (t : ChosenView). HasNotCommitted alone standings champions t stored back cause) chosen_is refused) in
        let ends = subst (λ (t : ChosenView). HasAbortedChosen alone standings champions t last.end.containers last.texts after) back_is gives in
        abort-ends whole count chosen.seen at.come after last.end.containers last.texts (aborted_chosen standings champions author chosen.seen session chosen.choice last.end.containers last.texts after ends)

  module _ (whole front rest : List (List (List ℕ))) (chunks : List (List ℕ)) (whole_is : whole ≡ front ++ chunks ∷ rest) (seen : StateView) (is_n : numbers_of seen.profile ≡ n) (come : HasCome n streams older author session whole (length front) (past_of seen)) (progress : Progress) (after : IdleView) (shelf : ShelfView) (cache : Entries) (fault : BackupFault) where
    segment-ends : HasGivenUp alone standings champions chunks (record { caller = open_at author session seen; progress = progress }) after shelf cache fault → EndsSo whole after
    segment-ends (unsampled is same gives) =
        abort-ends whole (length front) seen come after progress.end.containers progress.texts (aborted standings champions author seen session progress.end.containers progress.texts after gives)
    segment-ends (unchosen back cause is same refused gives) =
        let back_is = not_chosen standings champions author seen session (hooks (numbers_of seen.profile).bits (pieces chunks)) back cause refused in
        let ends = subst (λ (t : OpenView). HasAborted alone standings champions t progress.end.containers progress.texts after) back_is gives in
        abort-ends whole (length front) seen come after progress.end.containers progress.texts (aborted standings champions author seen session progress.end.containers progress.texts after ends)
    segment-ends (behind chosen chooses gives) =
        let waits = choice-waits n streams older author session whole standings champions front rest chunks whole_is seen chosen is_n come chooses in
        chosen-ends whole (length front) chunks (numbers_of seen.profile).room chosen waits progress after shelf cache fault gives

  -- ---- the whole session, of a source that is an input

  module _ (files : ShelfView) (input : List ℕ) (objects : Objects) (told : files.held ≡ Some objects) (seen : StateView) (is_n : numbers_of seen.profile ≡ n) (start : (whole : List (List (List ℕ))) → HasCome n streams older author session whole 0 (past_of seen)) where
    -- for the segments of the input
    pub record Ends (after : IdleView) : Type 0 where
      pub whole : List (List (List ℕ))
      pub whole_is : segments_of n (bytes_of objects input) ≡ whole
      pub ends : EndsSo whole after

    abbrev at_first : ShelfView → Entries → Progress
    at_first shelf cache = record { shelf = shelf; end = no_end session; texts = 0; cache = cache }

    pub finished-session : (last : SourceView) (shelf : ShelfView) (cache : Entries) (after : IdleView) (shelf' : ShelfView) (cache' : Entries) → HasFinishedStream alone standings champions (open_at author session seen) (input_view files input) last shelf cache after shelf' cache' → Ends after
    finished-session last shelf cache after shelf' cache' run =
        let segments = run.stored.segments in
        let given = subst (λ (m : Numbers). HasGivenAll m (input_view files input) last segments) is_n run.stored.given in
        let stands = segments-stand n streams older author session segments standings champions segments [] [] seen (at_first shelf cache) run.last (sym (append-nil segments)) is_n (start segments) run.stored.stored in
        let caller_is = is_open_at author session run.last.caller stands.same_author stands.same_session in
        let finishes = subst (λ (t : OpenView). HasFinished alone standings champions t run.last.progress.end.containers after) caller_is run.finished in
        record {
          whole = segments;
          whole_is = input-whole n files input objects last told segments given;
          ends =
              finish-ends segments (length segments) run.last.caller.seen stands.come after run.last.progress.end.containers refl
              (finished standings champions author run.last.caller.seen session run.last.progress.end.containers after finishes);
        }

    front_of : (work : WorkState) (last : SourceView) (segments : List (List (List ℕ))) → HasSplit (numbers_of seen.profile) (input_view files input) last work segments
        → (rest : List (List (List ℕ))) × (segments_of n (bytes_of objects input) ≡ segments ++ rest)
    front_of work last segments split =
        input-front n files input objects last told work segments (subst (λ (m : Numbers). HasSplit m (input_view files input) last work segments) is_n split)

    pub failed-session : (last : SourceView) (shelf : ShelfView) (cache : Entries) (after : IdleView) (shelf' : ShelfView) (cache' : Entries) (fault : BackupFault) → HasFailedStream alone standings champions (open_at author session seen) (input_view files input) last shelf cache after shelf' cache' fault → Ends after
    failed-session last shelf cache after shelf' cache' fault (unread is same_source same_shelf gives) =
        let whole = segments_of n (bytes_of objects input) in
        record { whole = whole; whole_is = refl; ends = abort-ends whole 0 seen (start whole) after 0 0 (aborted standings champions author seen session 0 0 after gives) }
    failed-session last shelf cache after shelf' cache' fault (stopped (reading segments now work end cause is same come ends gives)) =
        let front = front_of work now segments come.split in
        let whole = segments ++ front.0 in
        let stands = segments-stand n streams older author session whole standings champions segments [] front.0 seen (at_first shelf cache) end refl is_n (start whole) come.stored in
        let caller_is = is_open_at author session end.caller stands.same_author stands.same_session in
        let aborts = subst (λ (t : OpenView). HasAborted alone standings champions t end.progress.end.containers end.progress.texts after) caller_is gives in
        record {
          whole = whole;
          whole_is = front.1;
          ends = abort-ends whole (length segments) end.caller.seen stands.come after end.progress.end.containers end.progress.texts
              (aborted standings champions author end.caller.seen session end.progress.end.containers end.progress.texts after aborts);
        }
    failed-session last shelf cache after shelf' cache' fault (stopped (storing segments chunks work end split all up)) =
        let front = front_of work last (segments ++ chunks ∷ []) split in
        let whole = segments ++ chunks ∷ front.0 in
        let stands = segments-stand n streams older author session whole standings champions segments [] (chunks ∷ front.0) seen (at_first shelf cache) end refl is_n (start whole) all in
        let caller_is = is_open_at author session end.caller stands.same_author stands.same_session in
        let gives = subst (λ (t : OpenView). HasGivenUp alone standings champions chunks (record { caller = t; progress = end.progress }) after shelf' cache' fault) caller_is up in
        record {
          whole = whole;
          whole_is = front.1 ∙ append_assoc segments (chunks ∷ []) front.0;
          ends = segment-ends whole segments front.0 chunks refl end.caller.seen stands.same_numbers stands.come end.progress after shelf' cache' fault gives;
        }

-- ---- a backup

module _ (standings champions : ℕ) (files : ShelfView) (input name : List ℕ) (before : IdleView) (streams : Streams) (objects : Objects) (told : files.held ≡ Some objects) where
  abbrev pub n : Numbers
  n = numbers_of before.seen.profile

  abbrev pub older : List Entry
  older = past_of before.seen

  abbrev Has : StateView → Type 0
  Has seen = HasContents n streams older → HasContents n streams (past_of seen)

  unbegun-has : (cause : BeginFault) (after : IdleView) → HasNotBegun alone standings champions before name after cause → Has after.seen
  unbegun-has begin.Taken after has = λ older_has.
      let done = at_seen standings champions before.author before.seen (λ turn. BeginAnswer turn after.seen before.author name (Err begin.Taken)) has.at_turn in
      subst (HasContents n streams) (sym (steps standings champions before.author before.seen after.seen (made before.author (Begin name None)) done.1).past)
      (contents_more n streams before.author (Begin name None) older older_has tt tt)
  unbegun-has begin.Full after has = λ older_has.
      let done = at_seen standings champions before.author before.seen (λ turn. BeginAnswer turn after.seen before.author name (Err begin.Full)) has.at_turn in
      subst (λ (view : StateView). HasContents n streams (past_of view)) (sym done.same) older_has
  unbegun-has begin.Memory after has = λ older_has.
      let done = at_seen standings champions before.author before.seen (λ turn. BeginAnswer turn after.seen before.author name (Err begin.Memory)) has.at_turn in
      subst (λ (view : StateView). HasContents n streams (past_of view)) (sym done) older_has

  not_started-has : (after : IdleView) (fault : BackupFault) → HasNotStarted alone standings champions files input name before after fault → Has after.seen
  not_started-has after fault (unasked cause is same) = λ older_has. subst (λ (i : IdleView). HasContents n streams (past_of i.seen)) (sym same) older_has
  not_started-has after fault (absent is not_there same) = λ older_has. subst (λ (i : IdleView). HasContents n streams (past_of i.seen)) (sym same) older_has
  not_started-has after fault (unbegun cause is there has) = unbegun-has cause after has

  module _ (started : HasStarted alone standings champions files input name before) where
    abbrev pub author : ℕ
    author = before.author

    abbrev pub session : ℕ
    session = started.caller.session

    abbrev pub seen : StateView
    seen = started.caller.seen

    pub caller_is : started.caller ≡ open_at author session seen
    caller_is = is_open_at author session started.caller started.begun.author refl

    pub answer : BeginAnswer before.seen seen author name (Ok session)
    answer = at_seen standings champions author before.seen (λ turn. BeginAnswer turn seen author name (Ok session)) started.begun.at_turn

    pub begin_steps : Steps standings champions author before.seen seen (made author (Begin name (Some session)))
    begin_steps = steps standings champions author before.seen seen (made author (Begin name (Some session))) answer.1

    pub is_n : numbers_of seen.profile ≡ n
    is_n = ap numbers_of begin_steps.profile

    pub not_begun : has (begins session) older ≡ false
    not_begun =
        next_unbegun (rules_of standings champions before.seen) session older
        (legal_at standings champions author before.seen (λ turn. BeginAnswer turn seen author name (Ok session)) started.begun.at_turn)
        (next_is name session older answer.0)

    pub start : (whole : List (List (List ℕ))) → HasCome n streams older author session whole 0 (past_of seen)
    unfolding begins session_begun
    start whole =
        let entry = made author (Begin name (Some session)) in
        record {
          begun = subst (λ (past : List Entry). has (begins session) past ≡ true) (sym begin_steps.past) (has_now (begins session) entry older (self session));
          counted = (begun_open alone standings champions author session name before.seen seen started.begun.at_turn).commit_count;
          contents = λ is older_has. subst (HasContents n streams) (sym begin_steps.past) (contents_more n streams author (Begin name (Some session)) older older_has tt tt);
        }

    -- the session's stream is the input's bytes, whose segments are those of the end
    ends-stream : (after : IdleView) → IsOfInput streams older (past_of after.seen) (bytes_of objects input) → Ends n streams older author session standings champions files input objects told seen is_n start after → streams session ≡ bytes_of objects input
    ends-stream after of_input ends = of_input session not_begun ends.ends.begun

    ends-has : (after : IdleView) → IsOfInput streams older (past_of after.seen) (bytes_of objects input) → Ends n streams older author session standings champions files input objects told seen is_n start after → Has after.seen
    ends-has after of_input ends = ends.ends.contents (ap (segments_of n) (ends-stream after of_input ends) ∙ ends.whole_is)

    module _ (last : SourceView) (depot : ShelfView) (cache : Entries) (after : IdleView) (depot' : ShelfView) (cache' : Entries) where
      finished-ends : HasFinishedStream alone standings champions started.caller (input_view files input) last depot cache after depot' cache' → Ends n streams older author session standings champions files input objects told seen is_n start after
      finished-ends run =
          finished-session n streams older author session standings champions files input objects told seen is_n start last depot cache after depot' cache'
          (subst (λ (t : OpenView). HasFinishedStream alone standings champions t (input_view files input) last depot cache after depot' cache') caller_is run)

      failed-ends : (fault : BackupFault) → HasFailedStream alone standings champions started.caller (input_view files input) last depot cache after depot' cache' fault → Ends n streams older author session standings champions files input objects told seen is_n start after
      failed-ends fault run =
          failed-session n streams older author session standings champions files input objects told seen is_n start last depot cache after depot' cache' fault
          (subst (λ (t : OpenView). HasFailedStream alone standings champions t (input_view files input) last depot cache after depot' cache' fault) caller_is run)

      pub finished-of_input : HasFinishedStream alone standings champions started.caller (input_view files input) last depot cache after depot' cache' → IsOfInput streams older (past_of after.seen) (bytes_of objects input) → streams session ≡ bytes_of objects input
      finished-of_input run of_input = ends-stream after of_input (finished-ends run)

      pub failed-of_input : (fault : BackupFault) → HasFailedStream alone standings champions started.caller (input_view files input) last depot cache after depot' cache' fault → IsOfInput streams older (past_of after.seen) (bytes_of objects input) → streams session ≡ bytes_of objects input
      failed-of_input fault run of_input = ends-stream after of_input (failed-ends fault run)

  pub backup-has : (depot : ShelfView) (cache : Entries) (after : IdleView) (depot' : ShelfView) (cache' : Entries) (result : Result ℕ BackupFault) → BackupAnswer alone standings champions files input name before depot cache after depot' cache' result
      → IsOfInput streams older (past_of after.seen) (bytes_of objects input) → Has after.seen
  backup-has depot cache after depot' cache' (Ok number) has of_input =
      ends-has has.started after of_input (finished-ends has.started has.streamed.last depot cache after depot' cache' has.streamed.finished)
  backup-has depot cache after depot' cache' (Err fault) (not_started same has) of_input = not_started-has after fault has
  backup-has depot cache after depot' cache' (Err fault) (given_up started streamed) of_input = ends-has started after of_input (failed-ends started streamed.last depot cache after depot' cache' fault streamed.failed)
