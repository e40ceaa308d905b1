-- A depot that tells its reads.
use Rattle.std.proofs.Common.{◌≡◌, ℕ, ◌*◌, List, [], ◌∷◌, ◌++◌, Option, Some, Result, Ok, Err, refl, sym, ap, ◌∙◌, subst, inl}
use Rattle.segment_store.specs.Loads.{Entries}
use mathlib.Core.List.{map}
use Rattle.std.proofs.lemmas.List.{map-append}
use Rattle.ss_base.specs.declared.object.Object.TheVariants.{Manifest as ManifestObject}
use Rattle.ss_base.specs.declared.profile.Numbers.{Numbers}
use Rattle.ss_base.specs.Profile.{numbers_of}
use Rattle.ss_base.specs.ObjectName.{object_text}
use Rattle.ss_base.proofs.MemberLaws.{In, in_append_left, in_append_right}
use Rattle.manifest_codec.specs.declared.manifest.Manifest.{Manifest}
use Rattle.outside.specs.Shelf.{Objects, Given, bytes_of, read_of}
use Rattle.outside.specs.Views.{ShelfView}
use Rattle.journal_entry.specs.declared.entry.Entry.{Entry}
use Rattle.journal_entry.specs.declared.entry.Point.TheVariants.{Begin}
use Rattle.store_core.specs.View.{KeptView, past_of, made}
use Rattle.depot.specs.declared.fault.BackupFault.{BackupFault}
use Rattle.history_calls.specs.Tokens.{IdleView}
use Rattle.session.specs.Backup.{HasNotStarted, HasStarted, BackupAnswer}
use Rattle.session.specs.Backup.HasNotBackedUp.{not_started, given_up}
use Rattle.stored_streams.specs.Streams.{Streams}
use Rattle.stored_streams.specs.Plans.{Planned, plans_of, end_of}
use Rattle.stored_streams.specs.Reads.{IsGiven}
use Rattle.stored_streams.specs.Reads.Reads.{recorded}
use Rattle.stored_streams.proofs.ListLaws.{contains_from_in}
use Rattle.backed_up_streams.specs.OfInput.{IsOfInput}
use Rattle.backed_up_streams.specs.Loaded.{HasLoaded, ReadsMore}
use Rattle.backed_up_streams.proofs.AloneLaws.{alone}
use Rattle.stored_streams.proofs.ToldLaws.{with_more, more_then, gave_none}
use Rattle.backed_up_streams.proofs.GaveLaws.{segment_gave}
use Rattle.backed_up_streams.proofs.UnstartedLaws.{stores_weaker, unstarted-loaded}
use Rattle.backed_up_streams.proofs.LoadLaws.{text_loaded, IsTelling, LoadTold, HasEnded}
use Rattle.backed_up_streams.proofs.BackupLaws.{finished-of_input, failed-of_input}
use Rattle.backed_up_streams.proofs.RunLaws.{finished-run, failed-run}

-- ---- the reads of a depot

abbrev pub bytes_given : List Given → List (List ℕ)
bytes_given reads = map (λ (g : Given). g.bytes) reads

-- these texts are those that it gave since
pub record GaveSo (depot : ShelfView) (texts : List (List ℕ)) (newer : List Entry) (plans : List Planned) (shelf : ShelfView) : Type 0 where
  pub reads : List Given
  pub texts_are : bytes_given reads ≡ texts
  pub gave : shelf.gave ≡ with_more depot.gave reads

module _ (n : Numbers) (streams : Streams) (older : List Entry) (author session : ℕ) (depot : ShelfView) where
  abbrev pub Gave : List (List ℕ) → List Entry → List Planned → ShelfView → Type 0
  Gave = GaveSo depot

  load_gave : (texts : List (List ℕ)) (newer : List Entry) (plans : List Planned) (shelf : ShelfView) (view : KeptView) (manifest : Manifest) → Gave texts newer plans shelf
      → LoadTold n streams older author session Gave (λ past. Unit {0}) texts newer plans shelf view manifest
  load_gave texts newer plans shelf view manifest so =
      let text = text_loaded manifest in
      let read = read_of (object_text (ManifestObject view.id)) 0 (48 * view.chunks) text in
      record {
        gave = texts ++ text ∷ [];
        older_too = λ b there. in_append_left b texts (text ∷ []) there;
        told = record {
          reads = so.reads ++ read ∷ [];
          texts_are = map-append (λ (g : Given). g.bytes) so.reads (read ∷ []) ∙ ap (λ (ts : List (List ℕ)). ts ++ text ∷ []) so.texts_are;
          gave = ap (λ (told : Option (List Given)). with_more told (read ∷ [])) so.gave ∙ more_then depot.gave so.reads (read ∷ []);
        };
        source = λ allowed. inl (in_append_right text texts (text ∷ []) (inl refl));
      }

  pub is_telling : IsTelling n streams older author session Gave (λ past. Unit {0})
  is_telling = record {
    before = λ entry past allowed. tt;
    load = λ texts newer plans shelf view manifest live kept_is loaded so. load_gave texts newer plans shelf view manifest so;
    choose = λ texts newer plans shelf chosen ids so. record { reads = so.reads; texts_are = so.texts_are; gave = so.gave };
    commit = λ rules texts newer plans shelf seq chunks against stored legal counted chunks_are of loaded so. record {
      reads = so.reads;
      texts_are = so.texts_are;
      gave = segment_gave shelf (record { session = session; seq = seq }) chunks against (end_of session plans) n.room ∙ so.gave;
    };
  }

  pub at_first : (newer : List Entry) (plans : List Planned) → Gave [] newer plans depot
  at_first newer plans = let none = gave_none depot in record { reads = []; texts_are = refl; gave = none }

  -- what its reads gave, at the end of a session
  pub record Recorded (past : List Entry) (depot' : ShelfView) : Type 0 where
    pub reads : List Given
    pub more : ReadsMore depot depot' reads
    pub loaded : HasLoaded n streams (recorded reads ∷ []) older past

  -- the texts that were loaded are among what its reads gave
  pub texts_recorded : (past : List Entry) (depot' : ShelfView) (is : HasEnded n streams older author session Gave (λ past. Unit {0}) is_telling past depot') → (b : List ℕ) → In b is.texts → In b (bytes_given (is.told.reads ++ is.gave_more.reads))
  texts_recorded past depot' is b there =
      let first = is.told.reads in
      let last = is.gave_more.reads in
      subst (λ (ts : List (List ℕ)). In b ts) (sym (map-append (λ (g : Given). g.bytes) first last))
      (in_append_left b (bytes_given first) (bytes_given last) (subst (λ (ts : List (List ℕ)). In b ts) (sym is.told.texts_are) there))

  abbrev pub ended-recorded : (past : List Entry) (depot' : ShelfView) → HasEnded n streams older author session Gave (λ past. Unit {0}) is_telling past depot' → Recorded past depot'
  ended-recorded past depot' is =
      let first = is.told.reads in
      let last = is.gave_more.reads in
      let reads = first ++ last in
      record {
        reads = reads;
        more = is.gave_more.gave ∙ ap (λ (told : Option (List Given)). with_more told last) is.told.gave ∙ more_then depot.gave first last;
        loaded = record {
          newer = is.last ∷ is.then_newer;
          past_is = is.past_is;
          loads = is.loads;
          stores =
              stores_weaker (λ b. In b (bytes_given reads)) (IsGiven (recorded reads ∷ []) past) (λ b h. inl (contains_from_in b (bytes_given reads) h)) n streams is.loads (is.last ∷ is.then_newer) older
              (is.stores tt (bytes_given reads) (texts_recorded past depot' is));
        };
      }

-- ---- a backup

module _ (standings champions : ℕ) (files : ShelfView) (input name : List ℕ) (before : IdleView) (streams : Streams) (objects : Objects) (told : files.held ≡ Some objects) (depot : ShelfView) where
  abbrev Is : IdleView → ShelfView → Type 0
  Is after depot' = Recorded (numbers_of before.seen.profile) streams (past_of before.seen) before.author 0 depot (past_of after.seen) depot'

  not_started-recorded : (after : IdleView) (depot' : ShelfView) (fault : BackupFault) → depot' ≡ depot → HasNotStarted alone standings champions files input name before after fault → Is after depot'
  not_started-recorded after depot' fault same has = record {
    reads = [];
    more = let none = gave_none depot in ap (λ (s : ShelfView). s.gave) same ∙ none;
    loaded = unstarted-loaded standings champions files input name before streams (recorded [] ∷ []) after fault has;
  }

  session-recorded : (started : HasStarted alone standings champions files input name before) (after : IdleView) (depot' : ShelfView)
      → Recorded (numbers_of before.seen.profile) streams (past_of before.seen) before.author started.caller.session depot (past_of after.seen) depot' → Is after depot'
  session-recorded started after depot' is = record { reads = is.reads; more = is.more; loaded = is.loaded }

  pub backup-recorded : (after : IdleView) (depot' : ShelfView) (cache' : Entries) (result : Result ℕ BackupFault) → BackupAnswer alone standings champions files input name before depot [] after depot' cache' result
      → IsOfInput streams (past_of before.seen) (past_of after.seen) (bytes_of objects input) → Is after depot'
  backup-recorded after depot' cache' (Ok number) has of_input =
      let started = has.started in
      let streamed = has.streamed in
      let n = numbers_of before.seen.profile in
      let older = past_of before.seen in
      let session = started.caller.session in
      let newer : List Entry = made before.author (Begin name (Some session)) ∷ [] in
      let stream_is = finished-of_input standings champions files input name before streams objects told started streamed.last depot [] after depot' cache' streamed.finished of_input in
      session-recorded started after depot'
      (ended-recorded n streams older before.author session depot (past_of after.seen) depot'
      (finished-run standings champions files input name before streams objects told started (Gave n streams older before.author session depot) (λ past. Unit {0}) (is_telling n streams older before.author session depot) depot
      (at_first n streams older before.author session depot newer (plans_of n streams older)) stream_is streamed.last after depot' cache' streamed.finished))
  backup-recorded after depot' cache' (Err fault) (not_started same has) of_input = not_started-recorded after depot' fault same.0 has
  backup-recorded after depot' cache' (Err fault) (given_up started streamed) of_input =
      let n = numbers_of before.seen.profile in
      let older = past_of before.seen in
      let session = started.caller.session in
      let newer : List Entry = made before.author (Begin name (Some session)) ∷ [] in
      let stream_is = failed-of_input standings champions files input name before streams objects told started streamed.last depot [] after depot' cache' fault streamed.failed of_input in
      session-recorded started after depot'
      (ended-recorded n streams older before.author session depot (past_of after.seen) depot'
      (failed-run standings champions files input name before streams objects told started (Gave n streams older before.author session depot) (λ past. Unit {0}) (is_telling n streams older before.author session depot) depot
      (at_first n streams older before.author session depot newer (plans_of n streams older)) stream_is streamed.last after depot' cache' fault streamed.failed))
