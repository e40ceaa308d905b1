-- A backup makes no object that its history does not know.
use Rattle.std.proofs.Common.{◌≡◌, ℕ, true, List, [], ◌∷◌, Some, Result, Ok, Err, refl, sym, ap, ◌∙◌, subst, inl}
use Rattle.segment_store.specs.Loads.{Entries}
use Rattle.ss_base.specs.declared.profile.Numbers.{Numbers}
use Rattle.ss_base.specs.Profile.{numbers_of}
use Rattle.container_file.specs.declared.container_end.ContainerEnd.{ContainerEnd}
use Rattle.outside.specs.Shelf.{Objects, bytes_of}
use Rattle.outside.specs.Views.{ShelfView}
use Rattle.journal_entry.specs.declared.entry.Entry.{Entry}
use Rattle.journal_entry.specs.declared.entry.Point.TheVariants.{Begin}
use Rattle.history.specs.declared.rules.Rules.{Rules}
use Rattle.history.specs.Legal.{is_legal}
use Rattle.history.specs.Sessions.{commits, commits_of}
use Rattle.store_core.specs.View.{past_of, made}
use Rattle.depot.specs.declared.fault.BackupFault.{BackupFault}
use Rattle.history_calls.specs.Tokens.{IdleView}
use Rattle.history_calls.proofs.TurnLaws.{begun_open}
use Rattle.session.specs.Backup.{HasStarted, BackupAnswer}
use Rattle.session.specs.Backup.HasNotBackedUp.{not_started, given_up}
use Rattle.stored_streams.specs.Streams.{Streams}
use Rattle.stored_streams.specs.Plans.{Planned, plans_of}
use Rattle.backed_up_streams.specs.Created.{CreatesKnown}
use Rattle.backed_up_streams.specs.OfInput.{IsOfInput}
use Rattle.backed_up_streams.proofs.AloneLaws.{alone}
use Rattle.backed_up_streams.proofs.KeptLaws.{end_at_first}
use Rattle.backed_up_streams.proofs.LoadLaws.{IsTelling, HasEnded}
use Rattle.backed_up_streams.proofs.CreatedLaws.{CreatedSo, Any, is_creating, ended-creates}
use Rattle.backed_up_streams.proofs.BackupLaws.{begin_steps, finished-of_input, failed-of_input}
use Rattle.backed_up_streams.proofs.RunLaws.{finished-run, failed-run}

module _ (standings champions : ℕ) (files : ShelfView) (input name : List ℕ) (before : IdleView) (streams : Streams) (objects : Objects) (told : files.held ≡ Some objects) (depot : ShelfView) (stored : Objects) (depot_told : depot.held ≡ Some stored) (rules : Rules) where
  abbrev n : Numbers
  n = numbers_of before.seen.profile

  abbrev older : List Entry
  older = past_of before.seen

  module _ (started : HasStarted alone standings champions files input name before) where
    abbrev session : ℕ
    session = started.caller.session

    abbrev ToldIs : List (List ℕ) → List Entry → List Planned → ShelfView → Type 0
    ToldIs = CreatedSo n streams older before.author session stored

    abbrev AnyIs : List Entry → Type 0
    AnyIs = Any n streams older before.author session stored

    tells : IsTelling n streams older before.author session ToldIs AnyIs
    tells = is_creating n streams older before.author session stored

    abbrev begin_it : Entry
    begin_it = made before.author (Begin name (Some session))

    none_then : commits_of session (begin_it ∷ older) ≡ 0
    none_then =
        ap (commits_of session) (sym (begin_steps standings champions files input name before streams objects told started).past)
        ∙ (begun_open alone standings champions before.author session name before.seen started.caller.seen started.begun.at_turn).commit_count

    none_yet : commits_of session older ≡ 0
    unfolding commits_of commits
    none_yet = none_then

    at_first : ToldIs [] (begin_it ∷ []) (plans_of n streams older) depot
    at_first = record {
      own = ap (λ (e : ContainerEnd). e.session) (end_at_first n streams session older none_yet);
      all = record { now = stored; held_is = depot_told; each = λ q bytes found. inl (bytes, found) };
    }

    run-creates : (after : IdleView) (depot' : ShelfView) → HasEnded n streams older before.author session ToldIs AnyIs tells (past_of after.seen) depot' → is_legal rules (past_of after.seen) ≡ true → CreatesKnown (past_of after.seen) stored depot'
    unfolding tells
    run-creates after depot' ended legal = ended-creates n streams older before.author session stored rules (past_of after.seen) depot' ended legal

  pub backup-creates : (after : IdleView) (depot' : ShelfView) (cache' : Entries) (result : Result ℕ BackupFault) → BackupAnswer alone standings champions files input name before depot [] after depot' cache' result
      → IsOfInput streams (past_of before.seen) (past_of after.seen) (bytes_of objects input) → is_legal rules (past_of after.seen) ≡ true
      → CreatesKnown (past_of after.seen) stored depot'
  backup-creates after depot' cache' (Ok number) has of_input legal =
      let started = has.started in
      let streamed = has.streamed in
      let stream_is = finished-of_input standings champions files input name before streams objects told started streamed.last depot [] after depot' cache' streamed.finished of_input in
      run-creates started after depot'
      (finished-run standings champions files input name before streams objects told started (ToldIs started) (AnyIs started) (tells started) depot (at_first started) stream_is streamed.last after depot' cache' streamed.finished) legal
  backup-creates after depot' cache' (Err fault) (not_started same has) of_input legal =
      subst (λ (d : ShelfView). CreatesKnown (past_of after.seen) stored d) (sym same.0) (record { now = stored; held_is = depot_told; each = λ q bytes found. inl (bytes, found) })
  backup-creates after depot' cache' (Err fault) (given_up started streamed) of_input legal =
      let stream_is = failed-of_input standings champions files input name before streams objects told started streamed.last depot [] after depot' cache' fault streamed.failed of_input in
      run-creates started after depot'
      (failed-run standings champions files input name before streams objects told started (ToldIs started) (AnyIs started) (tells started) depot (at_first started) stream_is streamed.last after depot' cache' fault streamed.failed) legal

-- whatever the other streams are
pub created-known : (standings champions : ℕ) (files : ShelfView) (input name : List ℕ) (before : IdleView) (objects stored : Objects) (rules : Rules) (depot : ShelfView) (after : IdleView) (depot' : ShelfView) (cache' : Entries) (result : Result ℕ BackupFault)
    → BackupAnswer alone standings champions files input name before depot [] after depot' cache' result
    → files.held ≡ Some objects → depot.held ≡ Some stored → is_legal rules (past_of after.seen) ≡ true → CreatesKnown (past_of after.seen) stored depot'
created-known standings champions files input name before objects stored rules depot after depot' cache' result has told depot_told legal =
    backup-creates standings champions files input name before (λ session. bytes_of objects input) objects told depot stored depot_told rules after depot' cache' result has (λ session new begun. refl) legal
