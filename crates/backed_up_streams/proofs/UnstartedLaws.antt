-- What stays where other bytes could be given, and a backup that began no session.
use Rattle.std.proofs.Common.{◌≡◌, ◌⊎◌, ℕ, List, [], ◌∷◌, ◌++◌, None, Err, ap, inl, inr}
use Rattle.ss_base.specs.declared.ids.ManifestId.{ManifestId}
use Rattle.ss_base.specs.declared.profile.Numbers.{Numbers}
use Rattle.ss_base.specs.Profile.{numbers_of}
use Rattle.segment_plan.specs.Plan.{Located}
use Rattle.manifest_codec.specs.Text.{manifest_text}
use Rattle.outside.specs.Views.{ShelfView}
use Rattle.journal_entry.specs.declared.entry.Entry.{Entry}
use Rattle.journal_entry.specs.declared.entry.Point.{Point}
use Rattle.journal_entry.specs.declared.entry.Point.TheVariants.{Begin, Commit, Abort}
use Rattle.history.specs.Sessions.{pending_champions}
use Rattle.store_core.specs.declared.fault.BeginFault.{BeginFault}
use Rattle.store_core.specs.declared.fault.BeginFault.TheVariants as begin
use Rattle.store_core.specs.View.{past_of, made}
use Rattle.store_core.specs.Answers.{BeginAnswer}
use Rattle.depot.specs.declared.fault.BackupFault.{BackupFault}
use Rattle.history_calls.specs.Tokens.{IdleView}
use Rattle.history_calls.specs.SessionSteps.{HasNotBegun}
use Rattle.session.specs.Backup.{HasNotStarted}
use Rattle.session.specs.Backup.HasNotStarted.{unasked, absent, unbegun}
use Rattle.stored_streams.specs.Streams.{Streams}
use Rattle.stored_streams.specs.Plans.{Planned}
use Rattle.stored_streams.specs.OfStreams.{next_of}
use Rattle.stored_streams.specs.Loads.{Loads, IsLoadOf, AreLoadsOf, LoadedOf, loaded_plans, StoresLoaded}
use Rattle.stored_streams.specs.Reads.{Reads}
use Rattle.backed_up_streams.specs.Loaded.{HasLoaded}
use Rattle.backed_up_streams.proofs.AloneLaws.{alone, at_seen, steps}

-- ---- what other bytes could be given

module _ (given other : List ℕ → Type 0) (weaker : (b : List ℕ) → given b → other b) (n : Numbers) (streams : Streams) where
  load_weaker : (past : List Entry) (plans : List Planned) (id : ManifestId) (l : Located) → IsLoadOf n streams given past plans id l → IsLoadOf n streams other past plans id l
  load_weaker past plans id l is = record { manifest = is.manifest; digest = is.digest; source = elim is.source [ inl read ↦ inl (weaker (manifest_text l.pieces l.places) read) | inr planned ↦ inr planned ] }

  pub loads_weaker : (past : List Entry) (plans : List Planned) (ids : List ManifestId) (ls : List Located) → AreLoadsOf n streams given past plans ids ls → AreLoadsOf n streams other past plans ids ls
  loads_weaker past plans [] [] are = are
  loads_weaker past plans [] (l ∷ ls) are = absurd are
  loads_weaker past plans (id ∷ ids) [] are = absurd are
  loads_weaker past plans (id ∷ ids) (l ∷ ls) are = (load_weaker past plans id l are.0, loads_weaker past plans ids ls are.1)

  entry_weaker : (loads : Loads) (past : List Entry) (plans : List Planned) (point : Point) → LoadedOf n streams loads given past plans point → LoadedOf n streams loads other past plans point
  entry_weaker loads past plans (Commit id content text chunks bytes fresh fresh_bytes uses) (are, stores) = (loads_weaker past plans (pending_champions id.session past) (loads id) are, stores)
  entry_weaker loads past plans (Abort session containers texts) (inl laid) = inl laid
  entry_weaker loads past plans (Abort session containers texts) (inr (waits, are, laid)) =
      inr (waits, loads_weaker past plans (pending_champions session past) (loads (next_of session past)) are, laid)
  entry_weaker loads past plans _ says = says

  pub stores_weaker : (loads : Loads) (newer older : List Entry) → StoresLoaded n streams loads given newer older → StoresLoaded n streams loads other newer older
  stores_weaker loads [] older stores = stores
  stores_weaker loads (entry ∷ newer) older stores =
      (stores_weaker loads newer older stores.0, entry_weaker loads (newer ++ older) (loaded_plans n streams loads newer older) entry.point stores.1)

-- ---- no session began

module _ (standings champions : ℕ) (files : ShelfView) (input name : List ℕ) (before : IdleView) where
  -- the history is as before, or has a Begin without a session
  abbrev pub AddsNoSession : IdleView → Type 0
  AddsNoSession after = (past_of after.seen ≡ past_of before.seen) ⊎ (past_of after.seen ≡ made before.author (Begin name None) ∷ past_of before.seen)

  unbegun-adds : (cause : BeginFault) (after : IdleView) → HasNotBegun alone standings champions before name after cause → AddsNoSession after
  unbegun-adds begin.Taken after has =
      let done = at_seen standings champions before.author before.seen (λ turn. BeginAnswer turn after.seen before.author name (Err begin.Taken)) has.at_turn in
      inr (steps standings champions before.author before.seen after.seen (made before.author (Begin name None)) done.1).past
  unbegun-adds begin.Full after has =
      let done = at_seen standings champions before.author before.seen (λ turn. BeginAnswer turn after.seen before.author name (Err begin.Full)) has.at_turn in
      inl (ap past_of done.same)
  unbegun-adds begin.Memory after has =
      let done = at_seen standings champions before.author before.seen (λ turn. BeginAnswer turn after.seen before.author name (Err begin.Memory)) has.at_turn in
      inl (ap past_of done)

  pub unstarted-adds : (after : IdleView) (fault : BackupFault) → HasNotStarted alone standings champions files input name before after fault → AddsNoSession after
  unstarted-adds after fault (unasked cause is same) = inl (ap (λ (i : IdleView). past_of i.seen) same)
  unstarted-adds after fault (absent is not_there same) = inl (ap (λ (i : IdleView). past_of i.seen) same)
  unstarted-adds after fault (unbegun cause is there has) = unbegun-adds cause after has

  module _ (streams : Streams) (reads : List Reads) where
    abbrev Loaded : IdleView → Type 0
    Loaded after = HasLoaded (numbers_of before.seen.profile) streams reads (past_of before.seen) (past_of after.seen)

    added-loaded : (after : IdleView) → AddsNoSession after → Loaded after
    added-loaded after (inl same) = record { newer = []; past_is = same; loads = λ id. []; stores = tt }
    added-loaded after (inr is) = record { newer = made before.author (Begin name None) ∷ []; past_is = is; loads = λ id. []; stores = (tt, tt) }

    pub unstarted-loaded : (after : IdleView) (fault : BackupFault) → HasNotStarted alone standings champions files input name before after fault → Loaded after
    unstarted-loaded after fault has = added-loaded after (unstarted-adds after fault has)
