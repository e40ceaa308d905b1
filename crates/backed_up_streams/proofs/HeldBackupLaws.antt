-- What a backup stores against what its depot held at first.
use Rattle.std.proofs.Common.{◌≡◌, ℕ, true, false, List, [], ◌∷◌, ◌++◌, Some, Result, Ok, Err, refl, sym, ◌∙◌, subst, inl, inr}
use Rattle.segment_store.specs.Loads.{Entries}
use Rattle.std.specs.List.{All}
use Rattle.std.proofs.lemmas.Bool.{false≢true}
use Rattle.std.proofs.lemmas.List.Elements.{All-tail}
use Rattle.ss_base.specs.declared.ids.ManifestId.{ManifestId}
use Rattle.ss_base.specs.declared.profile.Numbers.{Numbers}
use Rattle.ss_base.specs.Profile.{numbers_of}
use Rattle.ss_base.proofs.MemberLaws.{In}
use Rattle.outside.specs.Shelf.{Objects, bytes_of}
use Rattle.outside.specs.Views.{ShelfView}
use Rattle.journal_entry.specs.declared.entry.Entry.{Entry}
use Rattle.journal_entry.specs.declared.entry.Point.TheVariants.{Begin}
use Rattle.journal_entry.specs.Bounds.{IsEntry}
use Rattle.history.specs.declared.rules.Rules.{Rules}
use Rattle.history.specs.Legal.{is_legal}
use Rattle.history.specs.Need.{commits_manifest}
use Rattle.history.specs.Sessions.{begins, has}
use Rattle.history_laws.proofs.SessionLaws.{has_cases, committed_begun}
use Rattle.store_core.specs.View.{past_of, rules_of, kept, made}
use Rattle.store_core.specs.Answers.{BeginAnswer}
use Rattle.depot.specs.declared.fault.BackupFault.{BackupFault}
use Rattle.history_calls.specs.Tokens.{IdleView}
use Rattle.session.specs.Backup.{HasStarted, BackupAnswer}
use Rattle.session.specs.Backup.HasNotBackedUp.{not_started, given_up}
use Rattle.stored_streams.specs.Streams.{Streams}
use Rattle.stored_streams.specs.Plans.{Planned, plans_of}
use Rattle.stored_streams.specs.Reads.{IsTextHeld, IsGiven}
use Rattle.stored_streams.specs.Reads.Reads.{held}
use Rattle.stored_streams.proofs.CommittedLaws.{kept_older}
use Rattle.backed_up_streams.specs.OfInput.{IsOfInput}
use Rattle.backed_up_streams.specs.Loaded.{HasLoaded}
use Rattle.backed_up_streams.proofs.AloneLaws.{alone, legal_at}
use Rattle.backed_up_streams.proofs.UnstartedLaws.{stores_weaker, unstarted-loaded}
use Rattle.backed_up_streams.proofs.LoadLaws.{HasEnded}
use Rattle.backed_up_streams.proofs.HeldLaws.{kept_committed, HeldSo, is_holding}
use Rattle.backed_up_streams.proofs.BackupLaws.{not_begun, finished-of_input, failed-of_input}
use Rattle.backed_up_streams.proofs.RunLaws.{finished-run, failed-run}

module _ (n : Numbers) (streams : Streams) (older : List Entry) (author session : ℕ) (objects : Objects) where
  abbrev pub Holds : List (List ℕ) → List Entry → List Planned → ShelfView → Type 0
  Holds = HeldSo n streams older author session objects

  still_held : (past now : List Entry) (b : List ℕ) → ((id : ManifestId) → kept id now ≡ kept id past) → IsTextHeld objects past b → IsTextHeld objects now b
  still_held past now b same was = record { view = was.view; is_kept = same was.view.id ∙ was.is_kept; text = was.text }

  -- the texts that were loaded are among what it held at first
  pub texts_held : (past : List Entry) (depot' : ShelfView) (is : HasEnded n streams older author session Holds (All IsEntry) (is_holding n streams older author session objects) past depot') → All IsEntry past
      → (b : List ℕ) → In b is.texts → IsGiven (held objects ∷ []) past b
  texts_held past depot' is entries b there =
      let entries_now = subst (λ (p : List Entry). All IsEntry p) is.past_is entries in
      let facts = is.told.facts (All-tail IsEntry is.last (is.then_newer ++ older) entries_now) in
      inl (inl (subst (λ (p : List Entry). IsTextHeld objects p b) (sym is.past_is)
      (still_held (is.then_newer ++ older) (is.last ∷ (is.then_newer ++ older)) b (λ id. kept_older id is.last (is.then_newer ++ older) (is.commits_none id)) (facts.texts_held b there))))

  pub ended-held : (past : List Entry) (depot' : ShelfView) → HasEnded n streams older author session Holds (All IsEntry) (is_holding n streams older author session objects) past depot' → All IsEntry past
      → HasLoaded n streams (held objects ∷ []) older past
  ended-held past depot' is entries =
      let entries_now = subst (λ (p : List Entry). All IsEntry p) is.past_is entries in
      record {
        newer = is.last ∷ is.then_newer;
        past_is = is.past_is;
        loads = is.loads;
        stores = stores_weaker (λ b. In b is.texts) (IsGiven (held objects ∷ []) past) (texts_held past depot' is entries) n streams is.loads (is.last ∷ is.then_newer) older (is.stores entries_now is.texts (λ b h. h));
      }

  -- before anything is stored
  module _ (rules : Rules) (name : List ℕ) (legal : is_legal rules older ≡ true) (unbegun : has (begins session) older ≡ false) where
    abbrev begun : Entry
    begun = made author (Begin name (Some session))

    never_own : (id : ManifestId) → id.session ≡ session → has (commits_manifest id) (begun ∷ older) ≡ true → ⊥
    unfolding commits_manifest
    never_own id same there =
        let earlier : has (commits_manifest id) older ≡ true = elim (has_cases (commits_manifest id) begun older there) [ inl here ↦ absurd (false≢true here) | inr before ↦ before ] in
        let was = subst (λ (s : ℕ). has (begins s) older ≡ true) same (committed_begun rules id older legal earlier) in
        false≢true (sym unbegun ∙ was)

    pub held_at_first : (plans : List Planned) (depot : ShelfView) → depot.held ≡ Some objects → Holds [] (begun ∷ []) plans depot
    held_at_first plans depot told = record {
      now = objects;
      held_is = told;
      facts = λ entries. record {
        own = λ id same view is. absurd (never_own id same (kept_committed id (begun ∷ older) view is));
        older_same = λ id differ there. refl;
        texts_held = λ b there. absurd there;
      };
    }

module _ (standings champions : ℕ) (files : ShelfView) (input name : List ℕ) (before : IdleView) (streams : Streams) (objects : Objects) (told : files.held ≡ Some objects) (depot : ShelfView) (stored : Objects) (depot_told : depot.held ≡ Some stored) where
  abbrev Loaded : IdleView → Type 0
  Loaded after = HasLoaded (numbers_of before.seen.profile) streams (held stored ∷ []) (past_of before.seen) (past_of after.seen)

  module _ (started : HasStarted alone standings champions files input name before) where
    abbrev n : Numbers
    n = numbers_of before.seen.profile

    abbrev older : List Entry
    older = past_of before.seen

    abbrev session : ℕ
    session = started.caller.session

    pub at_first : HeldSo n streams older before.author session stored [] (made before.author (Begin name (Some session)) ∷ []) (plans_of n streams older) depot
    at_first =
        held_at_first n streams older before.author session stored (rules_of standings champions before.seen) name
        (legal_at standings champions before.author before.seen (λ turn. BeginAnswer turn started.caller.seen before.author name (Ok session)) started.begun.at_turn)
        (not_begun standings champions files input name before streams objects told started) (plans_of n streams older) depot depot_told

    run-loaded : (after : IdleView) (depot' : ShelfView) → HasEnded n streams older before.author session (HeldSo n streams older before.author session stored) (All IsEntry) (is_holding n streams older before.author session stored) (past_of after.seen) depot' → All IsEntry (past_of after.seen) → Loaded after
    run-loaded after depot' is entries = ended-held n streams older before.author session stored (past_of after.seen) depot' is entries

  pub backup-held : (after : IdleView) (depot' : ShelfView) (cache' : Entries) (result : Result ℕ BackupFault) → BackupAnswer alone standings champions files input name before depot [] after depot' cache' result
      → IsOfInput streams (past_of before.seen) (past_of after.seen) (bytes_of objects input) → All IsEntry (past_of after.seen) → Loaded after
  backup-held after depot' cache' (Ok number) has of_input entries =
      let started = has.started in
      let streamed = has.streamed in
      let stream_is = finished-of_input standings champions files input name before streams objects told started streamed.last depot [] after depot' cache' streamed.finished of_input in
      run-loaded started after depot'
      (finished-run standings champions files input name before streams objects told started (HeldSo (numbers_of before.seen.profile) streams (past_of before.seen) before.author started.caller.session stored) (All IsEntry)
      (is_holding (numbers_of before.seen.profile) streams (past_of before.seen) before.author started.caller.session stored) depot (at_first started) stream_is streamed.last after depot' cache' streamed.finished)
      entries
  backup-held after depot' cache' (Err fault) (not_started same has) of_input entries = unstarted-loaded standings champions files input name before streams (held stored ∷ []) after fault has
  backup-held after depot' cache' (Err fault) (given_up started streamed) of_input entries =
      let stream_is = failed-of_input standings champions files input name before streams objects told started streamed.last depot [] after depot' cache' fault streamed.failed of_input in
      run-loaded started after depot'
      (failed-run standings champions files input name before streams objects told started (HeldSo (numbers_of before.seen.profile) streams (past_of before.seen) before.author started.caller.session stored) (All IsEntry)
      (is_holding (numbers_of before.seen.profile) streams (past_of before.seen) before.author started.caller.session stored) depot (at_first started) stream_is streamed.last after depot' cache' fault streamed.failed)
      entries
