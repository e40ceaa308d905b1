-- What a session stores against what was loaded, segment by segment.
use Rattle.std.proofs.Common.{◌≡◌, ℕ, ◌+◌, ◌≤◌, true, List, [], ◌∷◌, ◌++◌, length, refl, sym, ap, ◌∙◌, subst, arith, append_assoc, length-append}
use Rattle.manifest_cache.specs.Cached.{held}
use Rattle.std.proofs.lemmas.List.{append-nil}
use Rattle.ss_base.specs.declared.ids.ManifestId.{ManifestId}
use Rattle.ss_base.specs.declared.name.Name.{Name}
use Rattle.ss_base.specs.declared.profile.Numbers.{Numbers}
use Rattle.ss_base.specs.Profile.{numbers_of}
use Rattle.chunk_name.specs.Pieces.{pieces}
use Rattle.hook_sampler.specs.Hooks.{hooks}
use Rattle.manifest_codec.specs.declared.manifest.Manifest.{Manifest}
use Rattle.container_file.specs.declared.container_end.ContainerEnd.{ContainerEnd}
use Rattle.segment_plan.specs.Plan.{puts_against, end_against}
use Rattle.segment_plan.specs.Planned.{located}
use Rattle.segment_reader.specs.SegmentsOf.{segments_of}
use Rattle.outside.specs.Views.{ShelfView}
use Rattle.journal_entry.specs.declared.entry.Entry.{Entry}
use Rattle.journal_entry.specs.declared.entry.Point.TheVariants.{Abort}
use Rattle.history.specs.Legal.{is_legal}
use Rattle.history.specs.Sessions.{commits_of, pending_champions, is_pending}
use Rattle.store_core.specs.declared.values.Stored.{Stored}
use Rattle.store_core.specs.View.{StateView, KeptView, past_of, rules_of, all_kept, made}
use Rattle.depot.specs.declared.fault.BackupFault.{BackupFault}
use Rattle.depot.specs.Tokens.{WrittenView}
use Rattle.history_calls.specs.Tokens.{IdleView, OpenView, ChosenView}
use Rattle.history_calls.specs.SessionSteps.{HasChosen, HasNotChosen, HasCommitted, HasNotCommitted, HasFinished, HasAborted, HasAbortedChosen}
use Rattle.segment_store.specs.Loads.{after_loads, AreLoaded, Entries, HasCached}
use Rattle.segment_store.specs.Stored.{after_segment, IsStoredOf}
use Rattle.segment_store.specs.Storing.{Progress as StoreProgress}
use Rattle.segment_store.specs.Storing.NotStored.{not_planned, put_failed, write_failed}
use Rattle.session.specs.Stops.{NotStoredFor, HasGivenUpChosen, HasGivenUp}
use Rattle.session.specs.Stops.NotStoredFor.{not_tried, not_loaded, not_stored}
use Rattle.session.specs.Stops.HasGivenUpChosen.{unstored, uncommitted}
use Rattle.session.specs.Stops.HasGivenUp.{unsampled, unchosen, behind}
use Rattle.session.specs.Stores.{Reached, IsStoredFor, HasStored, HasStoredAll, Progress}
use Rattle.stored_streams.specs.Streams.{Streams}
use Rattle.stored_streams.specs.Plans.{Planned}
use Rattle.backed_up_streams.proofs.AloneLaws.{alone, open_at, chosen_at, is_open_at, is_chosen_at, chose, committed, not_chosen, not_committed, finished, aborted, aborted_chosen, legal_chosen}
use Rattle.backed_up_streams.proofs.KeptLaws.{all_kept_behind, champions_behind, waits_behind}
use Rattle.stored_streams.proofs.ToldLaws.{GaveMore, gave_same, gave_then}
use Rattle.backed_up_streams.proofs.GaveLaws.{loads_gave, stopped_loads-gave, stopped_puts-gave, puts_gave, segment_gave}
use Rattle.backed_up_streams.proofs.LeftLaws.{loads_held, stopped_loads-held, same_unwritten, unwritten_then, loads_unwritten, stopped_loads-unwritten, IsUnwritten, HasPutSome}
use Rattle.backed_up_streams.proofs.LeftLaws.HasPutSome.{stopped, unwritten, all_done}
use Rattle.backed_up_streams.proofs.LoadLaws.{commit_point, IsTelling, IsSoFar, HasEnded, chosen_so_far, committed_so_far, finished_so, given_up_so, given_up_pending}

module _ (n : Numbers) (streams : Streams) (older : List Entry) (author session : ℕ) (Told : List (List ℕ) → List Entry → List Planned → ShelfView → Type 0) (Allowed : List Entry → Type 0) (telling : IsTelling n streams older author session Told Allowed) (standings champions : ℕ) where
  abbrev So : ℕ → List Entry → ShelfView → ContainerEnd → Entries → Type 0
  So = IsSoFar n streams older author session Told Allowed telling

  abbrev Ended : List Entry → ShelfView → Type 0
  Ended = HasEnded n streams older author session Told Allowed telling

  -- where the session's caller stands
  pub record StandsSo (count : ℕ) (reached : Reached) : Type 0 where
    pub same_author : reached.caller.author ≡ author
    pub same_session : reached.caller.session ≡ session
    pub same_numbers : numbers_of reached.caller.seen.profile ≡ n
    pub so : So count (past_of reached.caller.seen) reached.progress.shelf reached.progress.end reached.progress.cache
    pub texts_are : reached.progress.texts ≡ count

  -- and behind a choice
  pub record WaitsSo (count : ℕ) (chosen : ChosenView) (progress : Progress) : Type 0 where
    pub same_author : chosen.author ≡ author
    pub same_session : chosen.session ≡ session
    pub same_numbers : numbers_of chosen.seen.profile ≡ n
    pub so : So count (past_of chosen.seen) progress.shelf progress.end progress.cache
    pub texts_are : progress.texts ≡ count
    pub ids : List ManifestId
    pub pending_are : pending_champions session (past_of chosen.seen) ≡ ids
    pub waits : is_pending session (past_of chosen.seen) ≡ true
    pub kept : chosen.choice.champions.items ≡ all_kept ids (past_of chosen.seen)
    pub manifest : chosen.choice.manifest ≡ record { session = session; seq = count }

  counted_past : (count : ℕ) (past : List Entry) (shelf : ShelfView) (end : ContainerEnd) (cache : Entries) → So count past shelf end cache → commits_of session past ≡ count
  counted_past count past shelf end cache so = ap (commits_of session) so.past_is ∙ so.counted

  choice-so : (count : ℕ) (wanted : List Name) (seen : StateView) (progress : Progress) (chosen : ChosenView) → numbers_of seen.profile ≡ n → So count (past_of seen) progress.shelf progress.end progress.cache → progress.texts ≡ count
      → HasChosen alone standings champions (open_at author session seen) wanted chosen → WaitsSo count chosen progress
  choice-so count wanted seen progress chosen is_n so texts has =
      let is = chose standings champions author seen session wanted chosen has in
      let past = past_of seen in
      let added = is.steps_are.past in
      record {
        same_author = is.same_author;
        same_session = is.same_session;
        same_numbers = ap numbers_of is.steps_are.profile ∙ is_n;
        so =
            subst (λ (p : List Entry). So count p progress.shelf progress.end progress.cache) (sym added)
            (chosen_so_far n streams older author session Told Allowed telling count past progress.shelf progress.end progress.cache wanted is.ids so);
        texts_are = texts;
        ids = is.ids;
        pending_are = ap (pending_champions session) added ∙ champions_behind author session wanted is.ids past;
        waits = ap (is_pending session) added ∙ waits_behind author session wanted is.ids past;
        kept = is.kept ∙ sym (all_kept_behind author session wanted is.ids past is.ids) ∙ ap (all_kept is.ids) (sym added);
        manifest = is.manifest ∙ ap (λ (k : ℕ). record { session = session; seq = k }) (counted_past count past progress.shelf progress.end progress.cache so);
      }

  module _ (front rest : List (List (List ℕ))) (chunks : List (List ℕ)) (are : segments_of n (streams session) ≡ front ++ chunks ∷ rest) (chosen : ChosenView) (progress : Progress) (at : WaitsSo (length front) chosen progress) where
    abbrev the_past : List Entry
    the_past = past_of chosen.seen

    abbrev the_kept : List KeptView
    the_kept = all_kept at.ids the_past

    abbrev the_id : ManifestId
    the_id = record { session = session; seq = length front }

    -- what was loaded for the choice
    loaded_kept : (manifests : List Manifest) → AreLoaded (held progress.cache) progress.shelf chosen.choice.champions.items manifests → AreLoaded (held progress.cache) progress.shelf the_kept manifests
    loaded_kept manifests loaded = subst (λ (ks : List KeptView). AreLoaded (held progress.cache) progress.shelf ks manifests) at.kept loaded

    shelf_kept : (manifests : List Manifest) → after_loads (held progress.cache) progress.shelf chosen.choice.champions.items manifests ≡ after_loads (held progress.cache) progress.shelf the_kept manifests
    shelf_kept manifests = ap (λ (ks : List KeptView). after_loads (held progress.cache) progress.shelf ks manifests) at.kept

    caller_is : chosen ≡ chosen_at author session chosen.seen chosen.choice
    caller_is = is_chosen_at author session chosen at.same_author at.same_session

    module _ (room : ℕ) (room_is : room ≡ n.room) where
      -- the segment was stored and committed
      commit-so : (after : Reached) (stored : Stored) (written : WrittenView) → IsStoredFor chunks chosen.choice room progress after.progress stored written
          → HasCommitted alone standings champions chosen stored after.caller → StandsSo (length (front ++ chunks ∷ [])) after
      commit-so after stored written stores commits =
          let is = committed standings champions author chosen.seen session chosen.choice stored after.caller
          (subst (λ (t : ChosenView). HasCommitted alone standings champions t stored after.caller) caller_is commits) in
          let against = located stores.manifests in
          let of = subst (λ (r : ℕ). IsStoredOf chunks against progress.end r stored) room_is stores.stored_is.stored_is in
          let so = committed_so_far n streams older author session Told Allowed telling front rest chunks are (rules_of standings champions chosen.seen) the_past is.legal progress.shelf progress.end progress.cache at.so at.ids at.pending_are stores.manifests (loaded_kept stores.manifests stores.loaded) stored of after.progress.cache
          (subst (λ (ks : List KeptView). HasCached progress.cache after.progress.cache ks stores.manifests) at.kept stores.caches) in
          let shelf_is : after.progress.shelf ≡ after_segment (after_loads (held progress.cache) progress.shelf the_kept stores.manifests) the_id chunks against progress.end n.room =
          stores.stored_is.shelf ∙ λ i. after_segment (shelf_kept stores.manifests i) (at.manifest i) chunks against progress.end (room_is i) in
          let end_is : after.progress.end ≡ end_against chunks against progress.end n.room = stores.stored_is.end ∙ ap (λ (r : ℕ). end_against chunks against progress.end r) room_is in
          let past_is : past_of after.caller.seen ≡ made author (commit_point session (length front) stored) ∷ the_past =
          is.steps_are.past ∙ ap (λ (k : ℕ). made author (commit_point session k stored) ∷ the_past) (counted_past (length front) the_past progress.shelf progress.end progress.cache at.so) in
          let texts = stores.stored_is.texts in
          let texts_before = at.texts_are in
          let longer = length-append front (chunks ∷ []) in
          record {
            same_author = is.same_author;
            same_session = is.same_session;
            same_numbers = ap numbers_of is.steps_are.profile ∙ at.same_numbers;
            texts_are = omega (arith, texts, texts_before, longer);
            so =
                subst (λ (p : List Entry). So (length (front ++ chunks ∷ [])) p after.progress.shelf after.progress.end after.progress.cache) (sym past_is)
                (subst (λ (s : ShelfView). So (length (front ++ chunks ∷ [])) (made author (commit_point session (length front) stored) ∷ the_past) s after.progress.end after.progress.cache) (sym shelf_is)
                (subst (λ (e : ContainerEnd). So (length (front ++ chunks ∷ [])) (made author (commit_point session (length front) stored) ∷ the_past) (after_segment (after_loads (held progress.cache) progress.shelf the_kept stores.manifests) the_id chunks against progress.end n.room) e after.progress.cache) (sym end_is) so));
          }

      -- ---- the session is given up behind the choice

      module _ (legal : is_legal (rules_of standings champions chosen.seen) the_past ≡ true) (written : ℕ) where
        -- with the containers as before
        same-ends : (last : Progress) → last.end ≡ progress.end → length front ≤ written → GaveMore progress.shelf last.shelf → last.shelf.held ≡ progress.shelf.held → IsUnwritten progress.shelf last.shelf → Ended (made author (Abort session last.end.containers written) ∷ the_past) last.shelf
        same-ends last end_is least gave held wrote_none =
            subst (λ (e : ContainerEnd). Ended (made author (Abort session e.containers written) ∷ the_past) last.shelf) (sym end_is)
            (given_up_so n streams older author session Told Allowed telling (length front) the_past progress.shelf progress.end progress.cache at.so last.shelf gave held wrote_none written least)

        -- or with those of the segment too
        laid-ends : (last : Progress) (manifests : List Manifest) → AreLoaded (held progress.cache) progress.shelf chosen.choice.champions.items manifests → last.end ≡ end_against chunks (located manifests) progress.end room
            → GaveMore (after_loads (held progress.cache) progress.shelf chosen.choice.champions.items manifests) last.shelf
            → HasPutSome chosen.choice.manifest chunks (located manifests) progress.end room written (after_loads (held progress.cache) progress.shelf chosen.choice.champions.items manifests) last.shelf → Ended (made author (Abort session last.end.containers written) ∷ the_past) last.shelf
        laid-ends last manifests loaded end_is gave some =
            subst (λ (e : ContainerEnd). Ended (made author (Abort session e.containers written) ∷ the_past) last.shelf) (sym (end_is ∙ ap (λ (r : ℕ). end_against chunks (located manifests) progress.end r) room_is))
            (given_up_pending n streams older author session Told Allowed telling front rest chunks are (rules_of standings champions chosen.seen) the_past legal progress.shelf progress.end progress.cache at.so at.ids at.pending_are manifests (loaded_kept manifests loaded)
            last.shelf written at.waits (subst (λ (s : ShelfView). GaveMore s last.shelf) (shelf_kept manifests) gave)
            (subst (λ (id : ManifestId). HasPutSome id chunks (located manifests) progress.end n.room written (after_loads (held progress.cache) progress.shelf the_kept manifests) last.shelf) at.manifest
            (subst (λ (r : ℕ). HasPutSome chosen.choice.manifest chunks (located manifests) progress.end r written (after_loads (held progress.cache) progress.shelf the_kept manifests) last.shelf) room_is
            (subst (λ (s : ShelfView). HasPutSome chosen.choice.manifest chunks (located manifests) progress.end room written s last.shelf) (shelf_kept manifests) some))))

        as_before : (last : Progress) → written ≡ last.texts → last.texts ≡ progress.texts → length front ≤ written
        as_before last is same = let texts = at.texts_are in omega (arith, is, same, texts)

        seq_is : chosen.choice.manifest.seq ≡ length front
        seq_is = ap (λ (id : ManifestId). id.seq) at.manifest

        one_tried : (last : Progress) → written ≡ last.texts → last.texts ≡ progress.texts + 1 → chosen.choice.manifest.seq + 1 ≤ written
        one_tried last is more = let texts = at.texts_are in let seq = seq_is in omega (arith, is, more, texts, seq)

        unstored-ends : (last : Progress) (fault : BackupFault) → written ≡ last.texts → NotStoredFor chunks chosen.choice room progress last fault → Ended (made author (Abort session last.end.containers written) ∷ the_past) last.shelf
        unstored-ends last fault texts (not_tried is same) = same-ends last (ap (λ (p : Progress). p.end) same) (as_before last texts (ap (λ (p : Progress). p.texts) same)) (gave_same progress.shelf last.shelf (ap (λ (p : Progress). p.shelf.gave) same)) (ap (λ (p : Progress). p.shelf.held) same) (same_unwritten progress.shelf last.shelf (ap (λ (p : Progress). p.shelf) same))
        unstored-ends last fault texts (not_loaded cause is same failed) = same-ends last (ap (λ (p : Progress). p.end) same) (as_before last texts (ap (λ (p : Progress). p.texts) same)) (stopped_loads-gave progress.cache last.cache progress.shelf last.shelf chosen.choice.champions.items cause failed) (stopped_loads-held progress.cache last.cache progress.shelf last.shelf chosen.choice.champions.items cause failed) (stopped_loads-unwritten progress.cache last.cache progress.shelf last.shelf chosen.choice.champions.items cause failed)
        unstored-ends last fault texts (not_stored manifests cause is loaded caches (not_planned is_memory same)) =
            let between = after_loads (held progress.cache) progress.shelf chosen.choice.champions.items manifests in
            same-ends last (ap (λ (p : StoreProgress). p.end) same) (as_before last texts (ap (λ (p : StoreProgress). p.texts) same))
            (gave_then progress.shelf between last.shelf (loads_gave (held progress.cache) progress.shelf chosen.choice.champions.items manifests) (gave_same between last.shelf (ap (λ (p : StoreProgress). p.shelf.gave) same)))
            (ap (λ (p : StoreProgress). p.shelf.held) same ∙ loads_held (held progress.cache) progress.shelf chosen.choice.champions.items manifests)
            (unwritten_then progress.shelf between last.shelf (loads_unwritten (held progress.cache) progress.shelf chosen.choice.champions.items manifests) (same_unwritten between last.shelf (ap (λ (p : StoreProgress). p.shelf) same)))
        unstored-ends last fault texts (not_stored manifests cause is loaded caches (put_failed end_is texts_are failed)) =
            let least = as_before last texts texts_are in
            let seq = seq_is in
            let between = after_loads (held progress.cache) progress.shelf chosen.choice.champions.items manifests in
            laid-ends last manifests loaded end_is
            (gave_same between last.shelf (stopped_puts-gave between last.shelf (puts_against chunks (located manifests) progress.end room) cause failed))
            (stopped cause (omega (arith, least, seq)) failed)
        unstored-ends last fault texts (not_stored manifests cause is loaded caches (write_failed end_is texts_are failed)) =
            let between = after_loads (held progress.cache) progress.shelf chosen.choice.champions.items manifests in
            let puts = puts_against chunks (located manifests) progress.end room in
            laid-ends last manifests loaded end_is
            (gave_same between last.shelf (ap (λ (s : ShelfView). s.gave) failed.others ∙ puts_gave between puts))
            (unwritten cause (one_tried last texts texts_are) failed)

        uncommitted-ends : (last : Progress) (stored : Stored) (written_view : WrittenView) → written ≡ last.texts → IsStoredFor chunks chosen.choice room progress last stored written_view → Ended (made author (Abort session last.end.containers written) ∷ the_past) last.shelf
        uncommitted-ends last stored written_view texts stores =
            let between = after_loads (held progress.cache) progress.shelf chosen.choice.champions.items stores.manifests in
            laid-ends last stores.manifests stores.loaded stores.stored_is.end
            (gave_same between last.shelf (ap (λ (s : ShelfView). s.gave) stores.stored_is.shelf ∙ segment_gave between chosen.choice.manifest chunks (located stores.manifests) progress.end room))
            (all_done (one_tried last texts stores.stored_is.texts) stores.stored_is.shelf)

      chosen-ended : (after : IdleView) (shelf : ShelfView) (cache : Entries) (fault : BackupFault) → HasGivenUpChosen alone standings champions chunks room chosen progress after shelf cache fault → Ended (past_of after.seen) shelf
      chosen-ended after shelf cache fault (unstored last same not gives) =
          let is = subst (λ (t : ChosenView). HasAbortedChosen alone standings champions t last.end.containers last.texts after) caller_is gives in
          let legal = legal_chosen standings champions author chosen.seen session chosen.choice last.end.containers last.texts after is in
          let added = aborted_chosen standings champions author chosen.seen session chosen.choice last.end.containers last.texts after is in
          subst (λ (s : ShelfView). Ended (past_of after.seen) s) (sym same.0)
          (subst (λ (p : List Entry). Ended p last.shelf) (sym added.past) (unstored-ends legal last.texts last fault refl not))
      chosen-ended after shelf cache fault (uncommitted last stored written back cause same is stores refused gives) =
          let back_is = not_committed standings champions author chosen.seen session chosen.choice stored back cause
          (subst (λ (t : ChosenView). HasNotCommitted alone standings champions t stored back cause) caller_is refused) in
          let ends = subst (λ (t : ChosenView). HasAbortedChosen alone standings champions t last.end.containers last.texts after) back_is gives in
          let legal = legal_chosen standings champions author chosen.seen session chosen.choice last.end.containers last.texts after ends in
          let added = aborted_chosen standings champions author chosen.seen session chosen.choice last.end.containers last.texts after ends in
          subst (λ (s : ShelfView). Ended (past_of after.seen) s) (sym same.0)
          (subst (λ (p : List Entry). Ended p last.shelf) (sym added.past) (uncommitted-ends legal last.texts last stored written refl stores))

  -- ---- how the session ends without a choice

  module _ (count : ℕ) (before : Reached) (at : StandsSo count before) (after : IdleView) where
    abbrev the_seen : StateView
    the_seen = before.caller.seen

    open_is : before.caller ≡ open_at author session the_seen
    open_is = is_open_at author session before.caller at.same_author at.same_session

    pub open-ended : (shelf : ShelfView) → shelf ≡ before.progress.shelf → HasAborted alone standings champions before.caller before.progress.end.containers before.progress.texts after → Ended (past_of after.seen) shelf
    open-ended shelf same gives =
        let is = subst (λ (t : OpenView). HasAborted alone standings champions t before.progress.end.containers before.progress.texts after) open_is gives in
        let added = aborted standings champions author the_seen session before.progress.end.containers before.progress.texts after is in
        subst (λ (p : List Entry). Ended p shelf) (sym added.past)
        (given_up_so n streams older author session Told Allowed telling count (past_of the_seen) before.progress.shelf before.progress.end before.progress.cache at.so shelf
        (gave_same before.progress.shelf shelf (ap (λ (s : ShelfView). s.gave) same)) (ap (λ (s : ShelfView). s.held) same) (same_unwritten before.progress.shelf shelf same) before.progress.texts (let texts = at.texts_are in omega (arith, texts)))

    pub finish-ended : (shelf : ShelfView) → shelf ≡ before.progress.shelf → HasFinished alone standings champions before.caller before.progress.end.containers after → Ended (past_of after.seen) shelf
    finish-ended shelf same gives =
        let is = subst (λ (t : OpenView). HasFinished alone standings champions t before.progress.end.containers after) open_is gives in
        let added = finished standings champions author the_seen session before.progress.end.containers after is in
        subst (λ (p : List Entry). Ended p shelf) (sym added.past)
        (finished_so n streams older author session Told Allowed telling count (past_of the_seen) before.progress.shelf before.progress.end before.progress.cache at.so shelf
        (gave_same before.progress.shelf shelf (ap (λ (s : ShelfView). s.gave) same)) (ap (λ (s : ShelfView). s.held) same) (same_unwritten before.progress.shelf shelf same))

  -- ---- one segment

  module _ (front rest : List (List (List ℕ))) (chunks : List (List ℕ)) (are : segments_of n (streams session) ≡ front ++ chunks ∷ rest) (before : Reached) (at : StandsSo (length front) before) where
    abbrev seen : StateView
    seen = before.caller.seen

    caller_at : before.caller ≡ open_at author session seen
    caller_at = is_open_at author session before.caller at.same_author at.same_session

    abbrev wanted : List Name
    wanted = hooks (numbers_of seen.profile).bits (pieces chunks)

    pub waits_so : (chosen : ChosenView) → HasChosen alone standings champions before.caller wanted chosen → WaitsSo (length front) chosen before.progress
    waits_so chosen chooses =
        choice-so (length front) wanted seen before.progress chosen at.same_numbers at.so at.texts_are
        (subst (λ (t : OpenView). HasChosen alone standings champions t wanted chosen) caller_at chooses)

    room_same : (numbers_of seen.profile).room ≡ n.room
    room_same = ap (λ (m : Numbers). m.room) at.same_numbers

    pub segment-so : (after : Reached) → HasStored alone standings champions chunks before after → StandsSo (length (front ++ chunks ∷ [])) after
    segment-so after has =
        commit-so front rest chunks are has.chosen before.progress (waits_so has.chosen has.chooses) (numbers_of seen.profile).room room_same after has.behind.stored has.behind.written has.behind.stores has.behind.commits

    pub segment-ended : (after : IdleView) (shelf : ShelfView) (cache : Entries) (fault : BackupFault) → HasGivenUp alone standings champions chunks before after shelf cache fault → Ended (past_of after.seen) shelf
    segment-ended after shelf cache fault (unsampled is same gives) = open-ended (length front) before at after shelf same.0 gives
    segment-ended after shelf cache fault (unchosen back cause is same refused gives) =
        let back_is = not_chosen standings champions author seen session wanted back cause (subst (λ (t : OpenView). HasNotChosen alone standings champions t wanted back cause) caller_at refused) in
        open-ended (length front) before at after shelf same.0
        (subst (λ (t : OpenView). HasAborted alone standings champions t before.progress.end.containers before.progress.texts after) (back_is ∙ sym caller_at) gives)
    segment-ended after shelf cache fault (behind chosen chooses gives) =
        chosen-ended front rest chunks are chosen before.progress (waits_so chosen chooses) (numbers_of seen.profile).room room_same after shelf cache fault gives

  -- some segments, one behind another
  pub segments-so : (segments front rest : List (List (List ℕ))) (before after : Reached) → segments_of n (streams session) ≡ front ++ (segments ++ rest) → StandsSo (length front) before
      → HasStoredAll alone standings champions segments before after → StandsSo (length (front ++ segments)) after
  segments-so [] front rest before after are at same =
      subst (λ (all : List (List (List ℕ))). StandsSo (length all) after) (sym (append-nil front)) (subst (λ (r : Reached). StandsSo (length front) r) (sym same) at)
  segments-so (chunks ∷ segments) front rest before after are at all =
      let one = segment-so front (segments ++ rest) chunks are before at all.0 all.1 in
      subst (λ (whole : List (List (List ℕ))). StandsSo (length whole) after) (append_assoc front (chunks ∷ []) segments)
      (segments-so segments (front ++ chunks ∷ []) rest all.0 after (are ∙ sym (append_assoc front (chunks ∷ []) (segments ++ rest))) one all.2)
