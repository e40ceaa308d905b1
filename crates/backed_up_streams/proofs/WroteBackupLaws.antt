-- What a whole backup wrote to its depot.
use Rattle.std.proofs.Common.{◌≡◌, ◌⊎◌, ℕ, true, List, [], ◌∷◌, Some, None, Result, Ok, Err, refl, sym, ap, ◌∙◌, subst, inl, inr}
use Rattle.segment_store.specs.Loads.{Entries}
use Rattle.std.specs.List.{All}
use Rattle.ss_base.specs.declared.profile.Numbers.{Numbers}
use Rattle.ss_base.specs.Profile.{numbers_of}
use Rattle.ss_base.proofs.SoundLaws.{AreSound-numbers_of}
use Rattle.ss_base.proofs.MemberLaws.{In}
use Rattle.outside.specs.Shelf.{Objects, Given, Written, bytes_of}
use Rattle.outside.specs.Views.{ShelfView}
use Rattle.journal_entry.specs.declared.entry.Entry.{Entry}
use Rattle.journal_entry.specs.declared.entry.Point.TheVariants.{Begin}
use Rattle.journal_entry.specs.Bounds.{IsEntry}
use Rattle.history.specs.declared.rules.Rules.{Rules}
use Rattle.history.specs.Legal.{is_legal}
use Rattle.store_core.specs.View.{past_of, made}
use Rattle.depot.specs.declared.fault.BackupFault.{BackupFault}
use Rattle.history_calls.specs.Tokens.{IdleView}
use Rattle.session.specs.Backup.{HasNotStarted, HasStarted, BackupAnswer}
use Rattle.session.specs.Backup.HasNotBackedUp.{not_started, given_up}
use Rattle.stored_streams.specs.Streams.{Streams}
use Rattle.stored_streams.specs.Plans.{Planned, plans_of}
use Rattle.stored_streams.specs.OfStreams.{HasContents, IsOfStreams}
use Rattle.stored_streams.specs.Reads.{Reads, IsGiven}
use Rattle.stored_streams.specs.Reads.Reads.{recorded, held}
use Rattle.stored_streams.specs.Collision.{Collide}
use Rattle.stored_streams.proofs.ListLaws.{contains_from_in}
use Rattle.stored_streams.proofs.LoadLaws.{collides}
use Rattle.backed_up_streams.specs.OfInput.{IsOfInput}
use Rattle.backed_up_streams.specs.Loaded.{HasLoaded, ReadsMore}
use Rattle.backed_up_streams.specs.Wrote.{writes_since, AreWritesOf, WritesMore, HasWritten}
use Rattle.backed_up_streams.proofs.AloneLaws.{alone}
use Rattle.backed_up_streams.proofs.BackupLaws.{finished-of_input, failed-of_input}
use Rattle.stored_streams.proofs.ToldLaws.{more_none, gave_none}
use Rattle.backed_up_streams.proofs.HeldLaws.{is_holding}
use Rattle.backed_up_streams.proofs.HeldBackupLaws.{Holds, texts_held, ended-held}
use Rattle.backed_up_streams.proofs.HeldBackupLaws as holding
use Rattle.backed_up_streams.proofs.LoadLaws.{IsTelling, HasEnded}
use Rattle.backed_up_streams.proofs.OfStreamsLaws.{loaded-of_streams}
use Rattle.backed_up_streams.proofs.RecordedLaws as recording
use Rattle.backed_up_streams.proofs.RecordedLaws.{bytes_given, Gave, is_telling, texts_recorded, ended-recorded}
use Rattle.backed_up_streams.proofs.RunLaws.{finished-run, failed-run}
use Rattle.backed_up_streams.proofs.UnstartedLaws.{AddsNoSession, unstarted-adds}
use Rattle.backed_up_streams.proofs.WroteLaws.{WroteSo, is_writing, nothing_written, as_told, ended-erased, ended-wrote}

module _ (standings champions : ℕ) (files : ShelfView) (input name : List ℕ) (before : IdleView) (streams : Streams) (objects : Objects) (told : files.held ≡ Some objects) (depot : ShelfView) (rules : Rules) (after : IdleView) (depot' : ShelfView) (cache' : Entries) where
  abbrev n : Numbers
  n = numbers_of before.seen.profile

  abbrev older : List Entry
  older = past_of before.seen

  abbrev past : List Entry
  past = past_of after.seen

  abbrev pub Wrote : Reads → Type 0
  Wrote reads = HasWritten n streams (reads ∷ []) older past depot depot'

  -- ---- no session began

  unstarted-are : AddsNoSession standings champions files input name before after → AreWritesOf n streams older past []
  unfolding writes_since
  unstarted-are (inl same) = record { newer = []; past_is = same; rest = []; writes_are = refl; rest_is = refl }
  unstarted-are (inr is) = record { newer = made before.author (Begin name None) ∷ []; past_is = is; rest = []; writes_are = refl; rest_is = inl refl }

  unstarted-wrote : (reads : Reads) (fault : BackupFault) → depot' ≡ depot → HasNotStarted alone standings champions files input name before after fault → Wrote reads
  unstarted-wrote reads fault same has = record {
    writes = [];
    more = ap (λ (s : ShelfView). s.wrote) same ∙ more_none depot.wrote;
    erased = ap (λ (s : ShelfView). s.erased) same;
    are = inl (unstarted-are (unstarted-adds standings champions files input name before after fault has));
  }

  -- ---- one that began

  module _ (legal : is_legal rules past ≡ true) (entries : All IsEntry past) (was : IsOfStreams n streams older) (contents : HasContents n streams past) where
    session-wrote : (session : ℕ) (Told : List (List ℕ) → List Entry → List Planned → ShelfView → Type 0) (Allowed : List Entry → Type 0) (telling : IsTelling n streams older before.author session Told Allowed)
        → (is : HasEnded n streams older before.author session (WroteSo n streams older before.author session Told Allowed telling depot) Allowed (is_writing n streams older before.author session Told Allowed telling depot) past depot')
        → Allowed past → (reads : Reads) → ((b : List ℕ) → In b is.texts → IsGiven (reads ∷ []) past b) → HasLoaded n streams (reads ∷ []) older past → Wrote reads
    session-wrote session Told Allowed telling is allowed reads given loaded =
        let Given_by : List ℕ → Type 0 = IsGiven (reads ∷ []) past in
        let now = loaded-of_streams before.seen.profile streams rules (reads ∷ []) older past legal entries was contents loaded in
        let (writes, more_writes, are) =
        subst (λ (p : List Entry). (writes : List Written) × WritesMore depot depot' writes × (AreWritesOf n streams older p writes ⊎ Collide n streams p Given_by)) (sym is.past_is)
        (ended-wrote n streams older before.author session Told Allowed telling depot past depot' is rules Given_by (λ p. Collide n streams p Given_by) (collides n streams Given_by) (AreSound-numbers_of before.seen.profile)
        (subst (λ (p : List Entry). is_legal rules p ≡ true) is.past_is legal)
        (subst (λ (p : List Entry). All IsEntry p) is.past_is entries)
        (subst Allowed is.past_is allowed)
        given
        (subst (λ (p : List Entry). IsOfStreams n streams p ⊎ Collide n streams p Given_by) is.past_is now)) in
        record { writes = writes; more = more_writes; erased = ended-erased n streams older before.author session Told Allowed telling depot past depot' is; are = are }

    -- ---- where the depot tells its reads

    module _ (session : ℕ) where
      abbrev Recording : List (List ℕ) → List Entry → List Planned → ShelfView → Type 0
      Recording = Gave n streams older before.author session depot

      abbrev AnyHistory : List Entry → Type 0
      AnyHistory p = Unit {0}

      abbrev recorder : IsTelling n streams older before.author session Recording AnyHistory
      recorder = is_telling n streams older before.author session depot

      abbrev RecordedSo : List (List ℕ) → List Entry → List Planned → ShelfView → Type 0
      RecordedSo = WroteSo n streams older before.author session Recording AnyHistory recorder depot

      abbrev recorded_writing : IsTelling n streams older before.author session RecordedSo AnyHistory
      recorded_writing = is_writing n streams older before.author session Recording AnyHistory recorder depot

      recorded_first : RecordedSo [] (made before.author (Begin name (Some session)) ∷ []) (plans_of n streams older) depot
      recorded_first =
          nothing_written n streams older before.author session Recording AnyHistory recorder depot name
          (recording.at_first n streams older before.author session depot (made before.author (Begin name (Some session)) ∷ []) (plans_of n streams older))

      recorded_wrote : HasEnded n streams older before.author session RecordedSo AnyHistory recorded_writing past depot' → (reads : List Given) × ReadsMore depot depot' reads × Wrote (recorded reads)
      recorded_wrote is =
          let base = as_told n streams older before.author session Recording AnyHistory recorder depot past depot' is in
          let all = ended-recorded n streams older before.author session depot past depot' base in (
            all.reads,
            all.more,
            session-wrote session Recording AnyHistory recorder is tt (recorded all.reads)
                (λ b there. inl (contains_from_in b (bytes_given all.reads) (texts_recorded n streams older before.author session depot past depot' base b there))) all.loaded,
          )

    pub recorded-wrote : (result : Result ℕ BackupFault) → BackupAnswer alone standings champions files input name before depot [] after depot' cache' result
        → IsOfInput streams older past (bytes_of objects input) → (reads : List Given) × ReadsMore depot depot' reads × Wrote (recorded reads)
    recorded-wrote (Ok number) has of_input =
        let started = has.started in
        let streamed = has.streamed in
        let session = started.caller.session in
        let stream_is = finished-of_input standings champions files input name before streams objects told started streamed.last depot [] after depot' cache' streamed.finished of_input in
        recorded_wrote session
        (finished-run standings champions files input name before streams objects told started (RecordedSo session) (AnyHistory session) (recorded_writing session) depot (recorded_first session) stream_is streamed.last after depot' cache' streamed.finished)
    recorded-wrote (Err fault) (not_started same has) of_input =
        let none = gave_none depot in
        ([], ap (λ (s : ShelfView). s.gave) same.0 ∙ none, unstarted-wrote (recorded []) fault same.0 has)
    recorded-wrote (Err fault) (given_up started streamed) of_input =
        let session = started.caller.session in
        let stream_is = failed-of_input standings champions files input name before streams objects told started streamed.last depot [] after depot' cache' fault streamed.failed of_input in
        recorded_wrote session
        (failed-run standings champions files input name before streams objects told started (RecordedSo session) (AnyHistory session) (recorded_writing session) depot (recorded_first session) stream_is streamed.last after depot' cache' fault streamed.failed)

    -- ---- where it tells its objects

    module _ (stored : Objects) (depot_told : depot.held ≡ Some stored) where
      module _ (session : ℕ) where
        abbrev Holding : List (List ℕ) → List Entry → List Planned → ShelfView → Type 0
        Holding = Holds n streams older before.author session stored

        abbrev holder : IsTelling n streams older before.author session Holding (All IsEntry)
        holder = is_holding n streams older before.author session stored

        abbrev HeldSoFar : List (List ℕ) → List Entry → List Planned → ShelfView → Type 0
        HeldSoFar = WroteSo n streams older before.author session Holding (All IsEntry) holder depot

        abbrev held_writing : IsTelling n streams older before.author session HeldSoFar (All IsEntry)
        held_writing = is_writing n streams older before.author session Holding (All IsEntry) holder depot

        held_wrote : HasEnded n streams older before.author session HeldSoFar (All IsEntry) held_writing past depot' → Wrote (held stored)
        held_wrote is =
            let base = as_told n streams older before.author session Holding (All IsEntry) holder depot past depot' is in
            session-wrote session Holding (All IsEntry) holder is entries (held stored)
            (texts_held n streams older before.author session stored past depot' base entries)
            (ended-held n streams older before.author session stored past depot' base entries)

      held_first : (started : HasStarted alone standings champions files input name before) → HeldSoFar started.caller.session [] (made before.author (Begin name (Some started.caller.session)) ∷ []) (plans_of n streams older) depot
      held_first started =
          let session = started.caller.session in
          nothing_written n streams older before.author session (Holding session) (All IsEntry) (holder session) depot name
          (holding.at_first standings champions files input name before streams objects told depot stored depot_told started)

      pub held-wrote : (result : Result ℕ BackupFault) → BackupAnswer alone standings champions files input name before depot [] after depot' cache' result → IsOfInput streams older past (bytes_of objects input) → Wrote (held stored)
      held-wrote (Ok number) has of_input =
          let started = has.started in
          let streamed = has.streamed in
          let session = started.caller.session in
          let stream_is = finished-of_input standings champions files input name before streams objects told started streamed.last depot [] after depot' cache' streamed.finished of_input in
          held_wrote session
          (finished-run standings champions files input name before streams objects told started (HeldSoFar session) (All IsEntry) (held_writing session) depot (held_first started) stream_is streamed.last after depot' cache' streamed.finished)
      held-wrote (Err fault) (not_started same has) of_input = unstarted-wrote (held stored) fault same.0 has
      held-wrote (Err fault) (given_up started streamed) of_input =
          let session = started.caller.session in
          let stream_is = failed-of_input standings champions files input name before streams objects told started streamed.last depot [] after depot' cache' fault streamed.failed of_input in
          held_wrote session
          (failed-run standings champions files input name before streams objects told started (HeldSoFar session) (All IsEntry) (held_writing session) depot (held_first started) stream_is streamed.last after depot' cache' fault streamed.failed)
