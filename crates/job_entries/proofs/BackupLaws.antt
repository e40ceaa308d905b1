-- What a backup adds, with the segments of its input.
use Rattle.std.proofs.Common.{◌≡◌, ℕ, List, [], ◌∷◌, ◌++◌, Some, None, Result, Ok, Err, refl, sym, ap, ◌∙◌, subst, inl, inr}
use Rattle.std.proofs.lemmas.List.{append-nil}
use Rattle.ss_base.specs.declared.profile.Numbers.{Numbers}
use Rattle.ss_base.specs.Profile.{numbers_of}
use Rattle.journal_entry.specs.declared.entry.Entry.{Entry}
use Rattle.journal_entry.specs.declared.entry.Point.{Point}
use Rattle.journal_entry.specs.declared.entry.Point.TheVariants.{Begin, Choose, Finish, Abort}
use Rattle.store_core.specs.declared.fault.BeginFault.{BeginFault}
use Rattle.store_core.specs.declared.fault.BeginFault.TheVariants as begin
use Rattle.store_core.specs.declared.fault.PointFault.{PointFault}
use Rattle.store_core.specs.declared.fault.PointFault.TheVariants as point
use Rattle.store_core.specs.declared.values.Choice.{Choice}
use Rattle.store_core.specs.View.{StateView, past_of}
use Rattle.outside.specs.Views.{ShelfView, SourceView}
use Rattle.outside.specs.declared.trouble.Trouble.{Trouble}
use Rattle.outside.specs.declared.trouble.Trouble.TheVariants as trouble
use Rattle.segment_reader.specs.declared.fault.NextFault.{NextFault}
use Rattle.segment_reader.specs.declared.fault.NextFault.TheVariants as next
use Rattle.segment_reader.specs.WorkState.{WorkState}
use Rattle.depot.specs.declared.fault.LoadFault.{LoadFault}
use Rattle.depot.specs.declared.fault.LoadFault.TheVariants as load
use Rattle.depot.specs.declared.fault.BackupFault.{BackupFault}
use Rattle.depot.specs.declared.fault.BackupFault.TheVariants.{Taken, NoInput, InputFault, TooLong, DepotFault, Damaged, Unlike, Full, Memory}
use Rattle.history_calls.specs.Tokens.{IdleView, OpenView, ChosenView}
use Rattle.history_calls.specs.OpenAt.{IsOpenAt}
use Rattle.history_calls.specs.SessionSteps.{HasNotBegun, HasAborted}
use Rattle.history_calls.proofs.TurnLaws.{begun_open}
use Rattle.segment_store.specs.Loads.{Entries}
use Rattle.session.specs.Stores.{Progress}
use Rattle.session.specs.Causes.{of_input, of_depot, of_begin, of_point, of_next, of_load}
use Rattle.session.specs.Split.{HasSplit, HasGivenAll}
use Rattle.session.specs.Stops.{NotStoredFor, HasGivenUpChosen, HasGivenUp}
use Rattle.session.specs.Stops.NotStoredFor.{not_tried, not_loaded, not_stored}
use Rattle.session.specs.Stops.HasGivenUpChosen.{unstored, uncommitted}
use Rattle.session.specs.Stops.HasGivenUp.{unsampled, unchosen, behind}
use Rattle.session.specs.Runs.{HasFinishedStream, HasFailedStream, HasStreamed, HasNotStreamed}
use Rattle.session.specs.Runs.HasStoppedStream.{reading, storing}
use Rattle.session.specs.Runs.HasFailedStream.{unread, stopped}
use Rattle.session.specs.Backup.{input_view, HasNotStarted, HasStarted, BackupAnswer}
use Rattle.session.specs.Backup.HasNotStarted.{unasked, absent, unbegun}
use Rattle.session.specs.Backup.HasNotBackedUp.{not_started, given_up}
use Rattle.session.proofs.StreamLaws.{nothing_read, split_start}
use Rattle.job_entries.specs.Interleaved.{AddsPoints}
use Rattle.job_entries.specs.Pairs.{segment_hooks}
use Rattle.job_entries.specs.Pairs.HasPairsOf.{none as no_pairs}
use Rattle.job_entries.specs.BackupStores.{StoresStream, IsChoiceOf, StoresFront, BackupStores}
use Rattle.job_entries.specs.BackupStores.IsChoiceOf.{unread as none_read, unchosen as none_chosen, chosen as one_chosen}
use Rattle.job_entries.proofs.AddsLaws.{adds-none, adds-then, adds-at_turn, adds-no_more, same_profile}
use Rattle.job_entries.proofs.StepLaws.{open_at, is_open_at, begin-adds, choose-adds, unchosen-adds, uncommitted-adds, finish-adds, abort-adds, abort_chosen-adds}
use Rattle.job_entries.proofs.SegmentLaws.{AddsPairs, stored_all-adds}

-- ---- what stops a backup once its session has begun

abbrev pub IsLater : BackupFault → Type 0
IsLater Taken = ⊥
IsLater NoInput = ⊥
IsLater fault = Unit {0}

later_point : (cause : PointFault) → IsLater (of_point cause)
later_point point.Full = tt
later_point point.Memory = tt

later_next : (cause : NextFault) → IsLater (of_next cause)
later_next next.Fault = tt
later_next next.TooLong = tt
later_next next.Memory = tt

later_load : (cause : LoadFault) → IsLater (of_load cause)
later_load load.Shelf = tt
later_load (load.Damaged want got) = tt
later_load (load.Unlike text) = tt
later_load load.Memory = tt

later_depot : (cause : Trouble) → IsLater (of_depot cause)
later_depot trouble.Fault = tt
later_depot trouble.Memory = tt

later_is : (fault cause : BackupFault) → fault ≡ cause → IsLater cause → IsLater fault
later_is fault cause is later = subst IsLater (sym is) later

later_store : (chunks : List (List ℕ)) (choice : Choice) (room : ℕ) (before after : Progress) (fault : BackupFault) → NotStoredFor chunks choice room before after fault → IsLater fault
later_store chunks choice room before after fault (not_tried is same) = later_is fault Memory is tt
later_store chunks choice room before after fault (not_loaded cause is same at) = later_is fault (of_load cause) is (later_load cause)
later_store chunks choice room before after fault (not_stored manifests cause is loaded caches failed) = later_is fault (of_depot cause) is (later_depot cause)

module _ (others : List Entry → Type 0) (standings champions : ℕ) (n : Numbers) (author session : ℕ) where
  -- How a session is given up behind its pairs: perhaps a Choose, and an Abort.
  record GivesUp (next : List (List (List ℕ))) (seen : StateView) (after : IdleView) (fault : BackupFault) : Type 0 where
    same_author : after.author ≡ author
    choice : List Point
    choice_of : IsChoiceOf n session next choice
    containers : ℕ
    texts : ℕ
    adds : AddsPoints others author seen after.seen (choice ++ Abort session containers texts ∷ [])
    later : IsLater fault

  module _ (chunks : List (List ℕ)) (room : ℕ) (chosen : ChosenView) (progress : Progress) (after : IdleView) (shelf : ShelfView) (cache : Entries) (fault : BackupFault) where
    -- behind a choice
    record EndsChosen : Type 0 where
      same_author : after.author ≡ author
      containers : ℕ
      texts : ℕ
      adds : AddsPoints others author chosen.seen after.seen (Abort session containers texts ∷ [])
      later : IsLater fault

    ends-chosen : chosen.author ≡ author → chosen.session ≡ session → HasGivenUpChosen others standings champions chunks room chosen progress after shelf cache fault → EndsChosen
    ends-chosen same_author same_session (unstored last same not aborted) =
        let ends = abort_chosen-adds others standings champions author session chosen last.end.containers last.texts after same_author same_session aborted in
        record { same_author = ends.0; containers = last.end.containers; texts = last.texts; adds = ends.1; later = later_store chunks chosen.choice room progress last fault not }
    ends-chosen same_author same_session (uncommitted last stored written back cause same is stores not_committed aborted) =
        let ends =
        abort_chosen-adds others standings champions author session back last.end.containers last.texts after (not_committed.author ∙ same_author) (not_committed.session ∙ same_session) aborted in
        let came =
        subst (λ (a : ℕ). AddsPoints others a chosen.seen back.seen []) same_author (uncommitted-adds others standings champions chosen stored back cause not_committed) in
        record {
          same_author = ends.0;
          containers = last.end.containers;
          texts = last.texts;
          adds = adds-then others author chosen.seen back.seen after.seen [] (Abort session last.end.containers last.texts ∷ []) came ends.1;
          later = later_is fault (of_point cause) is (later_point cause);
        }

  module _ (chunks : List (List ℕ)) (seen : StateView) (progress : Progress) (is_n : numbers_of seen.profile ≡ n) (after : IdleView) (shelf : ShelfView) (cache : Entries) (fault : BackupFault) where
    -- in a segment
    gives-up : HasGivenUp others standings champions chunks (record { caller = open_at author session seen; progress = progress }) after shelf cache fault → GivesUp (chunks ∷ []) seen after fault
    gives-up (unsampled is same aborted) =
        let ends = abort-adds others standings champions author session (open_at author session seen) progress.end.containers progress.texts after refl refl aborted in
        record { same_author = ends.0; choice = []; choice_of = none_chosen chunks refl refl; containers = progress.end.containers; texts = progress.texts; adds = ends.1; later = later_is fault Memory is tt }
    gives-up (unchosen back cause is same not_chosen aborted) =
        let hooks = segment_hooks (numbers_of seen.profile) chunks in
        let ends = abort-adds others standings champions author session back progress.end.containers progress.texts after not_chosen.author not_chosen.session aborted in
        let came = unchosen-adds others standings champions (open_at author session seen) hooks back cause not_chosen in
        record {
          same_author = ends.0;
          choice = [];
          choice_of = none_chosen chunks refl refl;
          containers = progress.end.containers;
          texts = progress.texts;
          adds = adds-then others author seen back.seen after.seen [] (Abort session progress.end.containers progress.texts ∷ []) came ends.1;
          later = later_is fault (of_point cause) is (later_point cause);
        }
    gives-up (behind chosen chooses up) =
        let hooks = segment_hooks (numbers_of seen.profile) chunks in
        let chose = choose-adds others standings champions (open_at author session seen) hooks chosen chooses in
        let ends = ends-chosen chunks (numbers_of seen.profile).room chosen progress after shelf cache fault chooses.author chooses.session up in
        let choice : List Point = Choose session (segment_hooks n chunks) chose.0 ∷ [] in
        record {
          same_author = ends.same_author;
          choice = choice;
          choice_of = one_chosen chunks chose.0 refl refl;
          containers = ends.containers;
          texts = ends.texts;
          adds =
              adds-then others author seen chosen.seen after.seen choice (Abort session ends.containers ends.texts ∷ [])
              (subst (λ (m : Numbers). AddsPoints others author seen chosen.seen (Choose session (segment_hooks m chunks) chose.0 ∷ [])) is_n chose.1) ends.adds;
          later = ends.later;
        }

  -- in the reading of a segment
  gives-up_unread : (seen : StateView) (containers texts : ℕ) (after : IdleView) (fault : BackupFault) → IsLater fault → HasAborted others standings champions (open_at author session seen) containers texts after → GivesUp [] seen after fault
  gives-up_unread seen containers texts after fault later aborted =
      let ends = abort-adds others standings champions author session (open_at author session seen) containers texts after refl refl aborted in
      record { same_author = ends.0; choice = []; choice_of = none_read refl refl; containers = containers; texts = texts; adds = ends.1; later = later }

  -- ---- the whole session

  module _ (name : List ℕ) (source : SourceView) (before seen : StateView) (begun : AddsPoints others author before seen (Begin name (Some session) ∷ [])) (at : IsOpenAt author session None 0 0 (past_of seen)) (is_n : numbers_of seen.profile ≡ n) where
    finished-stores : (last : SourceView) (shelf : ShelfView) (cache : Entries) (after : IdleView) (shelf' : ShelfView) (cache' : Entries) → HasFinishedStream others standings champions (open_at author session seen) source last shelf cache after shelf' cache'
        → (after.author ≡ author) × StoresStream others author n source name before after.seen session
    finished-stores last shelf cache after shelf' cache' has =
        let segments = has.stored.segments in
        let end = has.last.caller in
        let containers = has.last.progress.end.containers in
        let pairs = stored_all-adds others standings champions n author session segments 0 0 seen (record { shelf = shelf; end = record { session = session; containers = 0; used = 0 }; texts = 0; cache = cache }) has.last is_n has.stored.stored at in
        let finishes = finish-adds others standings champions author session end containers after pairs.same_author pairs.same_session has.finished in
        let ends = adds-then others author seen end.seen after.seen pairs.pairs (Finish session containers ∷ []) pairs.adds finishes.1 in (
          finishes.0,
          record {
            segments = segments;
            last = last;
            given = subst (λ (m : Numbers). HasGivenAll m source last segments) is_n has.stored.given;
            pairs = pairs.pairs;
            pairs_of = pairs.pairs_of;
            containers = containers;
            adds = adds-then others author before seen after.seen (Begin name (Some session) ∷ []) (pairs.pairs ++ Finish session containers ∷ []) begun ends;
          },
        )

    -- what a failed backup stores, once it has begun
    record FailsLater (after : IdleView) (fault : BackupFault) : Type 0 where
      same_author : after.author ≡ author
      later : IsLater fault
      front : StoresFront others author n source name before after.seen

    fails-later : (segments next : List (List (List ℕ))) (last : SourceView) (work : WorkState) (end : OpenView) (after : IdleView) (fault : BackupFault)
        → HasSplit n source last work (segments ++ next)
        → AddsPairs others standings champions n author session segments 0 seen end
        → GivesUp next end.seen after fault → FailsLater after fault
    fails-later segments next last work end after fault split pairs up =
        let ends = adds-then others author seen end.seen after.seen pairs.pairs (up.choice ++ Abort session up.containers up.texts ∷ []) pairs.adds up.adds in
        record {
          same_author = up.same_author;
          later = up.later;
          front = record {
            session = session;
            segments = segments;
            next = next;
            last = last;
            work = work;
            split = split;
            pairs = pairs.pairs;
            pairs_of = pairs.pairs_of;
            choice = up.choice;
            choice_of = up.choice_of;
            containers = up.containers;
            texts = up.texts;
            adds = adds-then others author before seen after.seen (Begin name (Some session) ∷ []) (pairs.pairs ++ (up.choice ++ Abort session up.containers up.texts ∷ [])) begun ends;
          };
        }

    stopped-fails : (last : SourceView) (shelf : ShelfView) (cache : Entries) (after : IdleView) (shelf' : ShelfView) (cache' : Entries) (fault : BackupFault)
        → HasFailedStream others standings champions (open_at author session seen) source last shelf cache after shelf' cache' fault → FailsLater after fault
    stopped-fails last shelf cache after shelf' cache' fault (unread is same_source same_shelf aborted) =
        fails-later [] [] source (nothing_read n) (open_at author session seen) after fault (split_start n source)
        (record { same_author = refl; same_session = refl; same_numbers = is_n; pairs = []; pairs_of = no_pairs 0; adds = adds-none others author seen })
        (gives-up_unread seen 0 0 after fault (later_is fault Memory is tt) aborted)
    stopped-fails last shelf cache after shelf' cache' fault (stopped (reading segments now work end cause is same come ends aborted)) =
        let pairs = stored_all-adds others standings champions n author session segments 0 0 seen (record { shelf = shelf; end = record { session = session; containers = 0; used = 0 }; texts = 0; cache = cache }) end is_n come.stored at in
        fails-later segments [] now work end.caller after fault
        (subst (λ (m : Numbers). HasSplit m source now work (segments ++ [])) is_n (subst (λ (all : List (List (List ℕ))). HasSplit (numbers_of seen.profile) source now work all) (sym (append-nil segments)) come.split))
        pairs
        (gives-up_unread end.caller.seen end.progress.end.containers end.progress.texts after fault (later_is fault (of_next cause) is (later_next cause))
        (subst (λ (t : OpenView). HasAborted others standings champions t end.progress.end.containers end.progress.texts after) (is_open_at author session end.caller pairs.same_author pairs.same_session) aborted))
    stopped-fails last shelf cache after shelf' cache' fault (stopped (storing segments chunks work end split all up)) =
        let pairs = stored_all-adds others standings champions n author session segments 0 0 seen (record { shelf = shelf; end = record { session = session; containers = 0; used = 0 }; texts = 0; cache = cache }) end is_n all at in
        fails-later segments (chunks ∷ []) last work end.caller after fault
        (subst (λ (m : Numbers). HasSplit m source last work (segments ++ chunks ∷ [])) is_n split)
        pairs
        (gives-up chunks end.caller.seen end.progress pairs.same_numbers after shelf' cache' fault
        (subst (λ (t : OpenView). HasGivenUp others standings champions chunks (record { caller = t; progress = end.progress }) after shelf' cache' fault) (is_open_at author session end.caller pairs.same_author pairs.same_session) up))

-- ---- a backup

module _ (others : List Entry → Type 0) (author : ℕ) (n : Numbers) (source : SourceView) (name : List ℕ) (before after : StateView) where
  stores-later : (fault : BackupFault) → IsLater fault → StoresFront others author n source name before after → BackupStores others author n source name before after (Err fault)
  stores-later Taken later front = absurd later
  stores-later NoInput later front = absurd later
  stores-later InputFault later front = inr front
  stores-later Full later front = inr front
  stores-later Memory later front = inr front
  stores-later TooLong later front = front
  stores-later DepotFault later front = front
  stores-later (Damaged want got) later front = front
  stores-later (Unlike text) later front = front

  unasked-stores : (cause : Trouble) → AddsPoints others author before after [] → BackupStores others author n source name before after (Err (of_input cause))
  unasked-stores trouble.Fault same = inl same
  unasked-stores trouble.Memory same = inl same

  stores-is : (fault cause : BackupFault) → fault ≡ cause → BackupStores others author n source name before after (Err cause) → BackupStores others author n source name before after (Err fault)
  stores-is fault cause is stores = subst (λ (f : BackupFault). BackupStores others author n source name before after (Err f)) (sym is) stores

module _ (others : List Entry → Type 0) (standings champions : ℕ) (files : ShelfView) (input name : List ℕ) (before : IdleView) where
  unbegun-stores : (cause : BeginFault) (after : IdleView) → HasNotBegun others standings champions before name after cause
      → BackupStores others before.author (numbers_of before.seen.profile) (input_view files input) name before.seen after.seen (Err (of_begin cause))
  unbegun-stores begin.Taken after has =
      adds-at_turn others before.author standings champions before.seen has.at_turn.turn after.seen (Begin name None) has.at_turn.is_turn has.at_turn.done.1
  unbegun-stores begin.Full after has =
      inl (adds-no_more others before.author standings champions before.seen has.at_turn.turn after.seen has.at_turn.is_turn has.at_turn.done.same)
  unbegun-stores begin.Memory after has =
      inl (adds-no_more others before.author standings champions before.seen has.at_turn.turn after.seen has.at_turn.is_turn has.at_turn.done)

  -- what a backup stores, with its caller as before
  abbrev pub Stores : IdleView → Result ℕ BackupFault → Type 0
  Stores after result = (after.author ≡ before.author) × BackupStores others before.author (numbers_of before.seen.profile) (input_view files input) name before.seen after.seen result

  not_started-stores : (after : IdleView) (fault : BackupFault) → HasNotStarted others standings champions files input name before after fault → Stores after (Err fault)
  not_started-stores after fault (unasked cause is same) =
      let n = numbers_of before.seen.profile in
      let source = input_view files input in
      let none_added = subst (λ (i : IdleView). AddsPoints others before.author before.seen i.seen []) (sym same) (adds-none others before.author before.seen) in (
        ap (λ (i : IdleView). i.author) same,
        stores-is others before.author n source name before.seen after.seen fault (of_input cause) is (unasked-stores others before.author n source name before.seen after.seen cause none_added),
      )
  not_started-stores after fault (absent is not_there same) =
      let none_added = subst (λ (i : IdleView). AddsPoints others before.author before.seen i.seen []) (sym same) (adds-none others before.author before.seen) in (
        ap (λ (i : IdleView). i.author) same,
        stores-is others before.author (numbers_of before.seen.profile) (input_view files input) name before.seen after.seen fault NoInput is none_added,
      )
  not_started-stores after fault (unbegun cause is there has) = (
    has.author,
    stores-is others before.author (numbers_of before.seen.profile) (input_view files input) name before.seen after.seen fault (of_begin cause) is (unbegun-stores cause after has),
  )

  module _ (started : HasStarted others standings champions files input name before) where
    -- the caller of the session
    caller_is : started.caller ≡ open_at before.author started.caller.session started.caller.seen
    caller_is = is_open_at before.author started.caller.session started.caller started.begun.author refl

    begun_adds : AddsPoints others before.author before.seen started.caller.seen (Begin name (Some started.caller.session) ∷ [])
    begun_adds = begin-adds others standings champions before name started.caller started.begun

    begun_at : IsOpenAt before.author started.caller.session None 0 0 (past_of started.caller.seen)
    begun_at = begun_open others standings champions before.author started.caller.session name before.seen started.caller.seen started.begun.at_turn

    numbers_are : numbers_of started.caller.seen.profile ≡ numbers_of before.seen.profile
    numbers_are = ap numbers_of (same_profile others before.author before.seen started.caller.seen (Begin name (Some started.caller.session) ∷ []) begun_adds)

    streamed-stores : (depot : ShelfView) (cache : Entries) (after : IdleView) (depot' : ShelfView) (cache' : Entries) → HasStreamed others standings champions started.caller (input_view files input) depot cache after depot' cache'
        → Stores after (Ok started.caller.session)
    streamed-stores depot cache after depot' cache' streamed =
        finished-stores others standings champions (numbers_of before.seen.profile) before.author started.caller.session name (input_view files input) before.seen started.caller.seen begun_adds begun_at numbers_are streamed.last depot cache after depot' cache'
        (subst (λ (t : OpenView). HasFinishedStream others standings champions t (input_view files input) streamed.last depot cache after depot' cache') caller_is streamed.finished)

    not_streamed-stores : (depot : ShelfView) (cache : Entries) (after : IdleView) (depot' : ShelfView) (cache' : Entries) (fault : BackupFault) → HasNotStreamed others standings champions started.caller (input_view files input) depot cache after depot' cache' fault
        → Stores after (Err fault)
    not_streamed-stores depot cache after depot' cache' fault streamed =
        let fails =
        stopped-fails others standings champions (numbers_of before.seen.profile) before.author started.caller.session name (input_view files input) before.seen started.caller.seen begun_adds begun_at numbers_are streamed.last depot cache after depot' cache' fault
        (subst (λ (t : OpenView). HasFailedStream others standings champions t (input_view files input) streamed.last depot cache after depot' cache' fault) caller_is streamed.failed) in
        (fails.same_author, stores-later others before.author (numbers_of before.seen.profile) (input_view files input) name before.seen after.seen fault fails.later fails.front)

  pub backup-stores : (depot : ShelfView) (cache : Entries) (after : IdleView) (depot' : ShelfView) (cache' : Entries) (result : Result ℕ BackupFault)
      → BackupAnswer others standings champions files input name before depot cache after depot' cache' result → Stores after result
  backup-stores depot cache after depot' cache' (Ok session) has =
      subst (λ (s : ℕ). Stores after (Ok s)) (sym has.session_is) (streamed-stores has.started depot cache after depot' cache' has.streamed)
  backup-stores depot cache after depot' cache' (Err fault) (not_started same has) = not_started-stores after fault has
  backup-stores depot cache after depot' cache' (Err fault) (given_up started streamed) = not_streamed-stores started depot cache after depot' cache' fault streamed
