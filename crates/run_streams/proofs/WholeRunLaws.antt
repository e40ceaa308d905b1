-- A run leaves a whole store whole.
use Rattle.std.proofs.Common.{◌≡◌, ℕ, ◌+◌, ◌≤◌, Bool, true, List, [], ◌∷◌, ◌++◌, length, reverse, map, take, Option, Some, None, refl, sym, ap, ◌∙◌, subst, inl, inr, arith, append-nil, append_assoc, leb, leb-true}
use Rattle.std.specs.Prelude.{Ok, Err, Vec}
use Rattle.std.specs.FinMap as map_of
use Rattle.std.specs.Option.{unwrap_or}
use Rattle.std.specs.List.{All, AllByRecursion}
use Rattle.std.specs.declared.alloc.Global.{Global}
use Rattle.std.proofs.lemmas.Bool.{false≢true, and_parts}
use Rattle.std.proofs.lemmas.List.{reverse-append, length-reverse}
use Rattle.std.proofs.lemmas.Grind.{flat_map-append}
use Rattle.std.proofs.lemmas.List.Elements.{All-nil, All-cons, All-tail}
use Rattle.std.specs.List.{sum_by}
use Rattle.std.proofs.lemmas.List.Sums.{sum_by-cons, sum_by-append}
use Rattle.ss_base.specs.declared.object.Object.{Object}
use Rattle.ss_base.specs.declared.object.Object.TheVariants.{Container, Manifest}
use Rattle.ss_base.specs.declared.profile.Numbers.{Numbers}
use Rattle.ss_base.specs.declared.profile.Profile.{Profile}
use Rattle.ss_base.specs.ObjectName.{object_text}
use Rattle.ss_base.specs.Profile.{numbers_of, AreSound}
use Rattle.ss_base.proofs.IdLaws.{same_object-self}
use Rattle.ss_base.proofs.MemberLaws.{In, in_any}
use Rattle.ss_base.proofs.SoundLaws.{AreSound-numbers_of}
use Rattle.outside.specs.Shelf.{Objects, bytes_of, part_of, with_added, without_object}
use Rattle.outside.specs.Views.{ShelfView, SinkView}
use Rattle.outside.specs.declared.trouble.Trouble.{Trouble}
use Rattle.outside.proofs.ObjectLaws.{bytes_of-insert_same, bytes_of-insert_other, bytes_of-remove_other}
use Rattle.journal_entry.specs.declared.entry.Entry.{Entry}
use Rattle.journal_entry.specs.declared.entry.Point.{Point}
use Rattle.journal_entry.specs.declared.entry.Point.TheVariants.{Commit}
use Rattle.journal_entry.specs.Bounds.{IsEntry}
use Rattle.journal_entry.specs.EntryText.{entry_text, entries_text}
use Rattle.journal_entry.specs.Weight.{point_weight, weight}
use Rattle.history.specs.declared.rules.Limits.{Limits}
use Rattle.history.specs.declared.rules.Rules.{Rules}
use Rattle.history.specs.Legal.{unfinished_sessions, unfinished_readings, is_allowed, is_within, may_follow, is_legal}
use Rattle.history.specs.Need.{reclaims, erasable, is_live}
use Rattle.history.specs.Sessions.{has, is_unfinished}
use Rattle.history_laws.proofs.Allowed.{step}
use Rattle.history_laws.proofs.SessionLaws.{has_now}
use Rattle.journal_file.specs.Adding.{with_entries}
use Rattle.journal_file.specs.Header.{journal_name, header_text}
use Rattle.journal_file.specs.Journal.{journal_text}
use Rattle.journal_file.proofs.AnswerLaws.{one_journal}
use Rattle.store_core.specs.declared.fault.PointFault.{PointFault}
use Rattle.store_core.specs.declared.fault.PointFault.TheVariants as point
use Rattle.store_core.specs.View.{StateView, past_of, rules_of, made, Adds}
use Rattle.store_core.specs.Answers.{reclaim_entry, ReclaimAnswer}
use Rattle.restore.specs.Copies.{Shelves}
use Rattle.history_calls.specs.Tokens.{IdleView}
use Rattle.session.specs.Backup.{HasRunAlone}
use Rattle.stored_streams.specs.Streams.{Streams}
use Rattle.stored_streams.specs.OfStreams.{StoresNothing, IsOfStreams}
use Rattle.stored_streams.specs.Whole.{IsChunkWith, IsWhole}
use Rattle.stored_streams.proofs.NameLaws.{not_journal}
use Rattle.stored_streams.proofs.StayLaws.{of_streams_stays, of_streams_before}
use Rattle.whole_objects.specs.Keeps.{IsNoObject, CommitsNothing}
use Rattle.whole_objects.proofs.EntryLaws.{whole_behind}
use Rattle.whole_objects.proofs.ReclaimLaws.{whole_without}
use Rattle.backed_up_streams.specs.OfInput.{IsOfInput}
use Rattle.backed_up_streams.specs.WholeThen.{IsWholeThen}
use Rattle.backed_up_streams.proofs.WholeBackupLaws.{whole-backup}
use Rattle.job_script.specs.declared.job.JobKind.{JobKind}
use Rattle.job_script.specs.declared.job.JobKind.TheVariants.{Backup, Restore, Delete, Reclaim, Stat}
use Rattle.report.specs.declared.answer.JobAnswer.{JobAnswer}
use Rattle.job_run.specs.Erasing.{IsErased, AreErased, HasReclaimed, LastReclaim, ReclaimsDone}
use Rattle.job_run.specs.Erasing.HasReclaimed.{none, more}
use Rattle.job_run.specs.Erasing.LastReclaim.{few, troubled, unmade}
use Rattle.store_run.specs.JobRun.{Kept, KeepAnswer, HasDoneJob}
use Rattle.store_run.specs.Opening.{store_of, IsLegal, IsJournalOf}
use Rattle.run_streams.specs.RunStreams.{HasFile, HasInput}
use Rattle.run_streams.specs.WholeStores.{IsWholeStore, KeepsStore, KeepStore}
use Rattle.run_streams.specs.WholeStores.KeepsStore.{job_done, only_read}
use Rattle.run_streams.specs.WholeStores.KeepStore.{no_run, one_more}
use Rattle.run_streams.proofs.OpenedLaws.{told_store, all_valid, entries_read}
use Rattle.run_streams.proofs.PointLaws.{StoreNothing, restore_stores_nothing, delete_stores_nothing, stat_stores_nothing, reclaim_stores_nothing, entries_store_nothing}

-- ---- entries that commit nothing

no_commit : (p : Point) → StoresNothing p → CommitsNothing p
no_commit (Commit id content text chunks bytes fresh fresh_bytes uses) nothing = absurd nothing
no_commit _ nothing = tt

no_commits : (newer : List Entry) → All (λ (e : Entry). StoresNothing e.point) newer → All (λ (e : Entry). CommitsNothing e.point) newer
no_commits newer all k d below = no_commit _ (all k d below)

-- ---- what is known of a history

module _ (n : Numbers) (sound : AreSound n) (rules : Rules) (streams : Streams) where
  record IsKnown (past : List Entry) : Type 0 where
    legal : is_legal rules past ≡ true
    entries : All IsEntry past
    of_streams : IsOfStreams n streams past

  known_before : (entry : Entry) (past : List Entry) → IsKnown (entry ∷ past) → IsKnown past
  known_before entry past is = record {
    legal = (step rules entry past is.legal).legal;
    entries = All-tail IsEntry entry past is.entries;
    of_streams = of_streams_before n streams (entry ∷ []) past is.of_streams;
  }

  -- ---- objects that were reclaimed are erased

  module _ (first : Objects) where
    abbrev Then : List Entry → ShelfView → Type 0
    Then past depot = IsWholeThen n streams past first depot

    removed_then : (past : List Entry) (object : Object) (before after : ShelfView) → IsKnown past → has (reclaims object) past ≡ true → after.held ≡ without_object before.held (object_text object) → Then past before → Then past after
    removed_then past object before after known reclaimed held is = record {
      now = map_of.remove is.now (object_text object);
      held_is = held ∙ ap (λ (h : Option Objects). without_object h (object_text object)) is.held_is;
      of_streams = is.of_streams;
      whole = whole_without n streams rules past is.now object sound known.legal known.entries known.of_streams reclaimed is.whole;
      others = λ name no_object. bytes_of-remove_other is.now (object_text object) name (no_object object) ∙ is.others name no_object;
    }

    same_then : (past : List Entry) (before after : ShelfView) → after.held ≡ before.held → Then past before → Then past after
    same_then past before after held is = record { now = is.now; held_is = held ∙ is.held_is; of_streams = is.of_streams; whole = is.whole; others = is.others }

    erased_then : (past : List Entry) (object : Object) (before after : ShelfView) (met : Option Trouble) → IsKnown past → has (reclaims object) past ≡ true → IsErased before after object met → Then past before → Then past after
    erased_then past object before after None known reclaimed is was = removed_then past object before after known reclaimed (ap (λ (s : ShelfView). s.held) is) was
    erased_then past object before after (Some trouble) known reclaimed is was = elim is.objects [
      | inl same ↦ same_then past before after same was
      | inr gone ↦ removed_then past object before after known reclaimed gone was
    ]

    all_erased : (past : List Entry) (objects : List Object) (before after : ShelfView) (met : Option Trouble) → IsKnown past → ((o : Object) → In o objects → has (reclaims o) past ≡ true) → AreErased before after objects met → Then past before → Then past after
    all_erased past [] before after met known reclaimed is was = same_then past before after (ap (λ (s : ShelfView). s.held) is.0) was
    all_erased past (object ∷ objects) before after met known reclaimed (between, one, rest, first_is, rest_are, met_is) was =
        all_erased past objects between after rest known (λ o there. reclaimed o (inr there)) rest_are
        (erased_then past object before between one known (reclaimed object (inl refl)) first_is was)

    -- one Reclaim
    reclaimed_in : (old : StateView) (author : ℕ) (object : Object) → In object (take 16 (erasable (past_of old))) → has (reclaims object) (reclaim_entry old author ∷ past_of old) ≡ true
    unfolding reclaims
    reclaimed_in old author object there = has_now (reclaims object) (reclaim_entry old author) (past_of old) (in_any _ object (take 16 (erasable (past_of old))) there (same_object-self object))

    added_past : (old new : StateView) (entry : Entry) → Adds old new entry → past_of new ≡ entry ∷ past_of old
    added_past old new entry is = ap past_of is.added ∙ reverse-append old.entries (entry ∷ [])

    one_reclaim : (author : ℕ) (old new : StateView) (depot depot' : ShelfView) (removals : Vec Object Global) (met : Option Trouble) → ReclaimAnswer old new author (Ok removals) → AreErased depot depot' removals.items met → IsKnown (past_of new) → Then (past_of old) depot → Then (past_of new) depot'
    one_reclaim author old new depot depot' removals met (are, adds) erased known was =
        let entry = reclaim_entry old author in
        let added = added_past old new entry adds in
        let known_now = subst IsKnown added known in
        let between : IsWholeThen n streams (entry ∷ past_of old) first depot = record {
          now = was.now;
          held_is = was.held_is;
          of_streams = known_now.of_streams;
          whole =
              whole_behind n streams rules (entry ∷ []) (past_of old) was.now known_now.legal
              (All-cons (λ (e : Entry). CommitsNothing e.point) entry [] tt (All-nil (λ (e : Entry). CommitsNothing e.point))) was.whole;
          others = was.others;
        } in
        subst (λ (p : List Entry). IsWholeThen n streams p first depot') (sym added)
        (all_erased (entry ∷ past_of old) removals.items depot depot' met known_now (λ o there. reclaimed_in old author o (subst (In o) are there)) erased between)

    reclaims_then : (author : ℕ) (old : StateView) (depot : ShelfView) (new : StateView) (depot' : ShelfView) → HasReclaimed author old depot new depot' → IsKnown (past_of new) → Then (past_of old) depot → Then (past_of new) depot'
    reclaims_then author old depot new depot' none known was = was
    reclaims_then author old depot new depot' (more between after_it shelf shelf' removals earlier answer full erased) known was =
        let added = added_past between after_it (reclaim_entry between author) answer.1 in
        let known_now = subst IsKnown added known in
        one_reclaim author between after_it shelf shelf' removals None answer erased known
        (reclaims_then author old depot between shelf earlier (known_before (reclaim_entry between author) (past_of between) known_now) was)

    refused_same : (author : ℕ) (old new : StateView) (cause : PointFault) → ReclaimAnswer old new author (Err cause) → new ≡ old
    refused_same author old new point.Full is = is.same
    refused_same author old new point.Memory is = is

    reclaim_then : (author : ℕ) (old new : StateView) (depot depot' : ShelfView) (answer : JobAnswer) → ReclaimsDone author old new depot depot' answer → IsKnown (past_of new) → Then (past_of old) depot → Then (past_of new) depot'
    reclaim_then author old new depot depot' answer is known was = last_then is.last
      where
        last_then : LastReclaim author is.between new is.shelf depot' answer → Then (past_of new) depot'
        last_then (few removals answer_is reclaimed fewer erased) =
            one_reclaim author is.between new is.shelf depot' removals None reclaimed erased known (earlier_then reclaimed.1)
          where
            earlier_then : Adds is.between new (reclaim_entry is.between author) → Then (past_of is.between) is.shelf
            earlier_then adds = reclaims_then author old depot is.between is.shelf is.earlier (known_before (reclaim_entry is.between author) (past_of is.between) (subst IsKnown (added_past is.between new (reclaim_entry is.between author) adds) known)) was
        last_then (troubled removals met answer_is reclaimed erased) =
            one_reclaim author is.between new is.shelf depot' removals (Some met) reclaimed erased known
            (reclaims_then author old depot is.between is.shelf is.earlier (known_before (reclaim_entry is.between author) (past_of is.between) (subst IsKnown (added_past is.between new (reclaim_entry is.between author) reclaimed.1) known)) was)
        last_then (unmade cause answer_is refused same) =
            let still = refused_same author is.between new cause refused in
            subst (λ (s : ShelfView). Then (past_of new) s) (sym same)
            (subst (λ (state : StateView). Then (past_of state) is.shelf) (sym still) (reclaims_then author old depot is.between is.shelf is.earlier (subst (λ (state : StateView). IsKnown (past_of state)) still known) was))

-- ---- the journal of the longer history

legal_fits : (rules : Rules) (past : List Entry) → is_legal rules past ≡ true → (length past ≤ rules.limits.entries) × (weight past ≤ rules.limits.weight)
unfolding is_legal may_follow is_within weight
legal_fits rules [] legal = (omega arith, omega arith)
legal_fits rules (entry ∷ past) legal =
    let most : Bool = leb (length (entry ∷ past) + unfinished_sessions (entry ∷ past) + unfinished_readings (entry ∷ past)) rules.limits.entries in
    let within = and_parts (is_allowed rules past entry.author entry.point) (is_within rules.limits (entry ∷ past)) (and_parts (is_legal rules past) _ legal).1 in
    let both = and_parts most _ within.1 in
    let few = leb-true _ _ both.0 in
    (omega (arith, few), leb-true _ _ both.1)

pub weight_reversed : (entries : List Entry) → weight (reverse entries) ≡ weight entries
unfolding weight
weight_reversed [] = refl
weight_reversed (entry ∷ entries) =
    let heavy : Entry → ℕ = λ e. point_weight e.point in
    let split : sum_by heavy (reverse (entry ∷ entries)) ≡ sum_by heavy (reverse entries) + sum_by heavy (entry ∷ []) =
    ap (sum_by heavy) (reverse-append (entry ∷ []) entries) ∙ sum_by-append heavy (reverse entries) (entry ∷ []) in
    let first = sum_by-cons heavy entry entries in
    let alone = sum_by-cons heavy entry [] in
    let rest = weight_reversed entries in
    omega (arith, split, first, alone, rest)

texts_both : (one other : List Entry) → entries_text (one ++ other) ≡ entries_text one ++ entries_text other
texts_both one other = flat_map-append entry_text one other

journal_more : (bytes : List ℕ) (store : StateView) (new : List Entry) → IsJournalOf bytes store → AllByRecursion IsEntry new → IsLegal (record store { entries = store.entries ++ new }) → IsJournalOf (bytes ++ entries_text new) (record store { entries = store.entries ++ new })
journal_more bytes store new is valid legal =
    let longer : StateView = record store { entries = store.entries ++ new } in
    let fits = legal_fits (rules_of 8 8 longer) (past_of longer) legal in
    let count = length-reverse longer.entries in
    let heavy = weight_reversed longer.entries in
    let entries_most = ap (λ (l : Limits). l.entries) is.limits in
    let weight_most = ap (λ (l : Limits). l.weight) is.limits in
    let few = fits.0 in
    let light = fits.1 in
    record {
      journal = record {
        text = ap (λ (b : List ℕ). b ++ entries_text new) is.journal.text
            ∙ append_assoc (header_text store.profile) (entries_text store.entries) (entries_text new)
            ∙ ap (λ (b : List ℕ). header_text store.profile ++ b) (sym (texts_both store.entries new));
        valid = all_valid store.entries new is.journal.valid valid;
        fits = record { count = omega (arith, few, count, entries_most); weight = omega (arith, light, heavy, weight_most) };
      };
      limits = is.limits;
    }

pub one_store : (bytes : List ℕ) (one other : StateView) → IsJournalOf bytes one → IsJournalOf bytes other → one ≡ other
one_store bytes one other is is_too =
    let same = one_journal bytes one.profile other.profile one.entries other.entries is.journal is_too.journal in
    let profiles = same.0 in
    let entries = same.1 in
    let limits = is.limits ∙ sym is_too.limits in
    λ i. record { profile = profiles i; limits = limits i; entries = entries i }

-- ---- a run

module _ (kind : JobKind) (streams : Streams) (before after : Shelves) (sink sink' : SinkView) (status : ℕ) (done : HasDoneJob kind before after sink sink' status) (objects : Objects) (told : before.depot.held ≡ Some objects) where
  abbrev n_of : Numbers
  n_of = numbers_of done.store.profile

  abbrev sound_of : AreSound n_of
  sound_of = AreSound-numbers_of done.store.profile

  abbrev past_was : List Entry
  past_was = past_of done.store

  abbrev past_now : List Entry
  past_now = past_of done.new

  abbrev rules_now : Rules
  rules_now = rules_of 8 8 done.new

  abbrev ThenWhole : Type 0
  ThenWhole = IsWholeThen n_of streams past_now objects done.done.depot

  opened_told : done.opened.depot.held ≡ Some objects
  opened_told = done.opens.only_reads.held ∙ told

  newer_is : past_now ≡ reverse (map (made done.author) done.points) ++ past_was
  newer_is = ap past_of done.added ∙ reverse-append done.store.entries (map (made done.author) done.points)

  module _ (was : IsOfStreams n_of streams past_was) (whole : IsWhole n_of streams past_was objects) where
    at_first : IsWholeThen n_of streams past_was objects done.opened.depot
    at_first = record { now = objects; held_is = opened_told; of_streams = was; whole = whole; others = λ name no_object. refl }

    still_of : StoreNothing done.points → IsOfStreams n_of streams past_now
    still_of nothing =
        subst (λ (p : List Entry). IsOfStreams n_of streams p) (sym newer_is)
        (of_streams_stays n_of streams (reverse (map (made done.author) done.points)) past_was (entries_store_nothing done.author done.points nothing) was)

    -- a job that stores nothing, and changes nothing of the depot
    still_whole : StoreNothing done.points → done.done.depot.held ≡ done.opened.depot.held → ThenWhole
    still_whole nothing same =
        let newer = reverse (map (made done.author) done.points) in
        record {
          now = objects;
          held_is = same ∙ opened_told;
          of_streams = still_of nothing;
          whole =
              subst (λ (p : List Entry). IsWhole n_of streams p objects) (sym newer_is)
              (whole_behind n_of streams rules_now newer past_was objects (subst (λ (p : List Entry). is_legal rules_now p ≡ true) newer_is done.legal)
              (no_commits newer (entries_store_nothing done.author done.points nothing)) whole);
          others = λ name no_object. refl;
        }

pub backup_whole_run : (input name : List ℕ) (streams : Streams) (before after : Shelves) (sink sink' : SinkView) (status : ℕ) (done : HasDoneJob (Backup input name) before after sink sink' status) (objects : Objects) (told : before.depot.held ≡ Some objects)
    → HasFile input streams before.files (past_of done.store) (past_of done.new)
    → IsOfStreams (numbers_of done.store.profile) streams (past_of done.store) → IsWhole (numbers_of done.store.profile) streams (past_of done.store) objects
    → ThenWhole (Backup input name) streams before after sink sink' status done objects told
backup_whole_run input name streams before after sink sink' status done objects told file was whole =
    let run : HasRunAlone 8 8 done.author done.opened.files done.done.files input name done.store done.new done.opened.depot done.done.depot [] done.cache done.job.result = done.job.done in
    let idle : IdleView = record { author = done.author; seen = done.store } in
    let n = numbers_of done.store.profile in
    let files_told : done.opened.files.held ≡ Some file.objects = ap (λ (files : ShelfView). files.held) done.files_same ∙ file.told in
    let of_input = subst (λ (view : StateView). IsOfInput streams (past_of done.store) (past_of view) (bytes_of file.objects input)) (sym run.after_is) file.of_input in
    let entries_seen = subst (λ (view : StateView). All IsEntry (past_of view)) (sym run.after_is) (entries_read (Backup input name) before after sink sink' status done) in
    let legal = subst IsLegal (sym run.after_is) done.legal in
    subst (λ (view : StateView). IsWholeThen n streams (past_of view) objects done.done.depot) run.after_is
    (whole-backup 8 8 done.opened.files input name idle streams file.objects files_told done.opened.depot objects (done.opens.only_reads.held ∙ told) (rules_of 8 8 run.after.seen) run.after done.done.depot done.cache done.job.result run.answer of_input legal entries_seen was whole)

pub job_whole : (kind : JobKind) (streams : Streams) (before after : Shelves) (sink sink' : SinkView) (status : ℕ) (done : HasDoneJob kind before after sink sink' status) (objects : Objects) (told : before.depot.held ≡ Some objects)
    → HasInput kind streams before.files (past_of done.store) (past_of done.new)
    → IsOfStreams (numbers_of done.store.profile) streams (past_of done.store) → IsWhole (numbers_of done.store.profile) streams (past_of done.store) objects
    → ThenWhole kind streams before after sink sink' status done objects told
job_whole (Backup input name) streams before after sink sink' status done objects told input_is was whole =
    backup_whole_run input name streams before after sink sink' status done objects told input_is was whole
job_whole (Restore name output) streams before after sink sink' status done objects told input_is was whole =
    still_whole (Restore name output) streams before after sink sink' status done objects told was whole (restore_stores_nothing name done.calls.result done.points done.calls.points_are) done.job.depot.held
job_whole (Delete name) streams before after sink sink' status done objects told input_is was whole =
    still_whole (Delete name) streams before after sink sink' status done objects told was whole (delete_stores_nothing name done.answer done.points done.calls) (ap (λ (s : Shelves). s.depot.held) done.job.1)
job_whole Stat streams before after sink sink' status done objects told input_is was whole =
    still_whole Stat streams before after sink sink' status done objects told was whole (stat_stores_nothing done.answer done.points done.calls) (ap (λ (s : Shelves). s.depot.held) done.job.1)
job_whole Reclaim streams before after sink sink' status done objects told input_is was whole =
    let n = numbers_of done.store.profile in
    let rules = rules_of 8 8 done.new in
    let of_now = still_of Reclaim streams before after sink sink' status done objects told was whole (reclaim_stores_nothing done.answer done.points done.calls) in
    reclaim_then n (AreSound-numbers_of done.store.profile) rules streams objects done.author done.store done.new done.opened.depot done.done.depot done.answer done.job.0
    (record { legal = done.legal; entries = entries_read Reclaim before after sink sink' status done; of_streams = of_now })
    (at_first Reclaim streams before after sink sink' status done objects told was whole)

-- ---- the kept journal

-- the journal's object is no other's
pub no_journal : IsNoObject journal_name
no_journal object same = not_journal object same

-- so it may hold anything
pub whole_journal : (n : Numbers) (streams : Streams) (past : List Entry) (objects : Objects) (text : List ℕ) → IsWhole n streams past objects → IsWhole n streams past (map_of.insert objects journal_name text)
whole_journal n streams past objects text whole =
    let now = map_of.insert objects journal_name text in
    let same : (object : Object) → bytes_of now (object_text object) ≡ bytes_of objects (object_text object) = λ object. bytes_of-insert_other objects journal_name text (object_text object) (λ e. not_journal object (sym e)) in
    record {
      manifests = λ id live.
          let was = whole.manifests id live in
          record {
            text = same (Manifest id) ∙ was.text;
            chunks = λ k p place piece_there place_there.
                subst (λ (bytes : List ℕ). IsChunkWith n streams past p (part_of bytes place.offset p.len)) (sym (same (Container place.container))) (was.chunks k p place piece_there place_there);
          };
      containers = λ id unfinished below.
          let was = whole.containers id unfinished below in
          record { rest = was.rest; begins = same (Container id) ∙ was.begins };
    }

kept_depot : (n : Numbers) (streams : Streams) (past : List Entry) (first : Objects) (depot after : ShelfView) (new : List Entry)
    → after.held ≡ with_entries depot.held new → IsWholeThen n streams past first depot
    → (now : Objects) × (after.held ≡ Some now) × (bytes_of now journal_name ≡ bytes_of first journal_name ++ entries_text new) × IsWhole n streams past now
kept_depot n streams past first depot after [] held is =
    (is.now, held ∙ is.held_is, is.others journal_name no_journal ∙ sym (append-nil (bytes_of first journal_name)), is.whole)
kept_depot n streams past first depot after (entry ∷ new) held is =
    let text = bytes_of is.now journal_name ++ entries_text (entry ∷ new) in (
      map_of.insert is.now journal_name text,
      held ∙ ap (λ (h : Option Objects). with_added h journal_name (entries_text (entry ∷ new))) is.held_is,
      bytes_of-insert_same is.now journal_name text ∙ ap (λ (b : List ℕ). b ++ entries_text (entry ∷ new)) (is.others journal_name no_journal),
      whole_journal n streams past is.now text is.whole,
    )

kept_well : (before after : ShelfView) (entries : List Entry) (kept : Kept) → kept ≡ Ok tt → KeepAnswer before after entries kept → KeepAnswer before after entries (Ok tt)
kept_well before after entries kept is keeps = subst (KeepAnswer before after entries) is keeps

-- a run that kept its entries
pub done_keeps_store : (kind : JobKind) (streams : Streams) (before after : Shelves) (store : StateView) (sink sink' : SinkView) (status : ℕ) (done : HasDoneJob kind before after sink sink' status) → done.ending.kept ≡ Ok tt → HasInput kind streams before.files (past_of done.store) (past_of done.new)
    → IsWholeStore streams before.depot store → IsWholeStore streams after.depot done.new
done_keeps_store kind streams before after store sink sink' status done kept input_is is =
    let opened = told_store before.depot done.opened.depot done.store is.objects done.opens is.told in
    let same : done.store ≡ store = one_store (bytes_of is.objects journal_name) done.store store opened.journal is.journal in
    let new = map (made done.author) done.points in
    let keeps = kept_well done.done.depot after.depot new done.ending.kept kept done.ending.keeps in
    let was = subst (λ (s : StateView). IsOfStreams (numbers_of s.profile) streams (past_of s)) (sym same) is.of_streams in
    let whole = subst (λ (s : StateView). IsWhole (numbers_of s.profile) streams (past_of s) is.objects) (sym same) is.whole in
    let then_whole = job_whole kind streams before after sink sink' status done is.objects is.told input_is was whole in
    let (now, held_is, text, whole_now) =
    kept_depot (numbers_of done.store.profile) streams (past_of done.new) is.objects done.done.depot after.depot new
    (ap (λ (s : ShelfView). s.held) keeps) then_whole in
    let profile_same : done.store.profile ≡ done.new.profile = ap (λ (s : StateView). s.profile) (sym done.added) in
    let journal = journal_more (bytes_of is.objects journal_name) done.store new opened.journal done.ending.fit (subst IsLegal done.added done.legal) in
    record {
      objects = now;
      told = held_is;
      journal = subst (λ (b : List ℕ). IsJournalOf b done.new) (sym text) (subst (λ (s : StateView). IsJournalOf (bytes_of is.objects journal_name ++ entries_text new) s) (sym done.added) journal);
      legal = done.legal;
      of_streams = subst (λ (p : Profile). IsOfStreams (numbers_of p) streams (past_of done.new)) profile_same then_whole.of_streams;
      whole = subst (λ (p : Profile). IsWhole (numbers_of p) streams (past_of done.new) now) profile_same whole_now;
    }

-- a run that only read
pub read_keeps_store : (streams : Streams) (before after : ShelfView) (store : StateView) → after.held ≡ before.held → IsWholeStore streams before store → IsWholeStore streams after store
read_keeps_store streams before after store same is = record { objects = is.objects; told = same ∙ is.told; journal = is.journal; legal = is.legal; of_streams = is.of_streams; whole = is.whole }

pub run_keeps_store : (streams : Streams) (before after : Shelves) (store : StateView) → KeepsStore streams before after → IsWholeStore streams before.depot store → (new : StateView) × IsWholeStore streams after.depot new
run_keeps_store streams before after store (only_read same) is = (store, read_keeps_store streams before.depot after.depot store same is)
run_keeps_store streams before after store (job_done kind sink sink' status done kept input_is) is = (done.new, done_keeps_store kind streams before after store sink sink' status done kept input_is is)

pub runs_keep_store : (streams : Streams) (before after : Shelves) (store : StateView) → KeepStore streams before after → IsWholeStore streams before.depot store → (new : StateView) × IsWholeStore streams after.depot new
runs_keep_store streams before after store no_run is = (store, is)
runs_keep_store streams before after store (one_more between now runs run) is =
    let earlier = runs_keep_store streams before between store runs is in
    run_keeps_store streams between now earlier.0 run earlier.1

-- the depot tells which store it is
pub same_store : (streams : Streams) (depot : ShelfView) (one other : StateView) → IsWholeStore streams depot one → IsWholeStore streams depot other → one ≡ other
same_store streams depot one other is is_too =
    let objects : is_too.objects ≡ is.objects = ap (λ (h : Option Objects). unwrap_or h is.objects) (sym is_too.told ∙ is.told) in
    one_store (bytes_of is.objects journal_name) one other is.journal (subst (λ (o : Objects). IsJournalOf (bytes_of o journal_name) other) objects is_too.journal)

-- a store without entries
pub first_store : (streams : Streams) (depot : ShelfView) (objects : Objects) (profile : Profile) → depot.held ≡ Some objects → bytes_of objects journal_name ≡ journal_text profile [] → IsWholeStore streams depot (store_of profile [])
unfolding is_live is_unfinished has is_legal weight
first_store streams depot objects profile told text = record {
  objects = objects;
  told = told;
  journal = record { journal = record { text = text; valid = tt; fits = record { count = omega arith; weight = omega arith } }; limits = refl };
  legal = refl;
  of_streams = record { contents = record { contents = tt; complete = tt }; stored = record { stored = tt; ends = tt } };
  whole = record { manifests = λ id live. absurd (false≢true live); containers = λ id unfinished below. absurd (false≢true unfinished) };
}
