-- How runs end where nothing keeps them off.
use Rattle.std.proofs.Common.{◌≡◌, ◌⊎◌, ℕ, cond, List, [], ◌∷◌, None, Some, refl, sym, ap, ◌∙◌, subst, inl, inr}
use Rattle.std.specs.Prelude.{IfSome, Ok, Err}
use Rattle.ss_base.specs.declared.profile.Profile.{Profile}
use Rattle.ss_base.specs.Profile.{numbers_of}
use Rattle.ss_base.specs.Search.{least}
use Rattle.outside.specs.Faults.{Rose, HasCause}
use Rattle.outside.specs.Shelf.{Objects, bytes_of}
use Rattle.outside.specs.Views.{SourceView, SinkView, ShelfView, SourceFailed, SinkFailed, ShelfFailed, Takes}
use Rattle.outside.specs.declared.trouble.Trouble.TheVariants as trouble
use Rattle.journal_entry.specs.declared.entry.Entry.{Entry}
use Rattle.history.specs.Sessions.{begins, has}
use Rattle.journal_file.specs.Cause.{AppendCount}
use Rattle.journal_file.specs.Header.{journal_name}
use Rattle.journal_file.specs.declared.fault.AppendFault.TheVariants as added
use Rattle.store_core.specs.View.{StateView, past_of, rules_of, author_after}
use Rattle.restore.specs.Copies.{Shelves}
use Rattle.session.specs.Backup.{HasRunAlone}
use Rattle.stored_streams.specs.Agree.{AgreeOn}
use Rattle.stored_streams.specs.Streams.{Streams}
use Rattle.stored_streams.proofs.AgreeLaws.{of_streams_agrees, whole_agrees}
use Rattle.restored_streams.specs.Complete.{NoneFailed}
use Rattle.backed_up_streams.specs.OfInput.{IsOfInput}
use Rattle.job_script.specs.declared.job.JobKind.{JobKind}
use Rattle.job_script.specs.declared.job.JobKind.TheVariants.{Backup, Restore, Delete, Reclaim, Stat}
use Rattle.report.specs.Status.{answer_status}
use Rattle.job_run.specs.Jobs.{answer_of}
use Rattle.report.specs.declared.answer.JobAnswer.{JobAnswer}
use Rattle.report.specs.declared.answer.JobAnswer.TheVariants as job
use Rattle.report.specs.declared.answer.ReclaimFault.TheVariants as reclaim
use Rattle.store_core.specs.declared.fault.NameFault.TheVariants as name
use Rattle.store_core.specs.declared.fault.PointFault.TheVariants as add
use Rattle.depot.specs.declared.fault.BackupFault.TheVariants as backup
use Rattle.depot.specs.declared.fault.RestoreFault.TheVariants as restore
use Rattle.store_run.specs.declared.stop.Stop.{Stop}
use Rattle.store_run.specs.declared.stop.Stop.TheVariants as stop
use Rattle.store_run.specs.EntryLines.{entry_lines}
use Rattle.store_run.specs.Feed.{max_stream, EndsAtLimit}
use Rattle.store_run.specs.JobRun.{Kept, Printed, run_status, HasDoneJob, JobRun}
use Rattle.store_run.specs.JobRun.JobRun.{ran, not_opened, no_author as none_left, no_cache}
use Rattle.store_run.specs.Listing.{JournalAnswer}
use Rattle.store_run.specs.Listing.JournalAnswer.{listed, not_opened as not_read, line_failed as listing_failed, line_wanted_memory as listing_wanted_memory}
use Rattle.store_run.specs.Opening.{Opens, IsStore, IsOpening, IsRefused, OpeningCount}
use Rattle.store_run.specs.Run.{Refuses, told, sink_failed, memory_wanted as no_memory, StreamAnswer, printed, ended_early, line_failed, line_wanted_memory, HasJournal, InitAnswer, made, not_made}
use Rattle.store_run.specs.SoFar.{Stage, so_far}
use Rattle.store_run.specs.Stop.{status_of, least_status}
use Rattle.run_streams.specs.Answered.{IsDue}
use Rattle.run_streams.specs.Ends.{IsClosedStore, EndsDuly}
use Rattle.run_streams.specs.Ends.EndsDuly.{job_done, no_author, memory_wanted}
use Rattle.run_streams.specs.RunStreams.{HasFile}
use Rattle.run_streams.specs.WholeStores.{IsWholeStore}
use Rattle.run_streams.proofs.BackupDueLaws.{backup_due}
use Rattle.run_streams.proofs.CountLaws.{Moved, rose_then, then_rose, job_moves}
use Rattle.run_streams.proofs.DueLaws.{delete_is_due, stat_is_due, reclaim_is_due, restore_is_due}
use Rattle.run_streams.proofs.FullLaws.{IsClosed, left_closed}
use Rattle.run_streams.proofs.OpenedLaws.{told_store}
use Rattle.run_streams.proofs.WholeAnswerLaws.{whole_front, backup_answered}
use Rattle.run_streams.proofs.WholeRunLaws.{one_store}

-- ---- a backup, whose input is the stream of its session in some table

with_input : Streams → List Entry → List ℕ → Streams
with_input streams past bytes session = cond (has (begins session) past) (streams session) bytes

agrees : (streams : Streams) (past : List Entry) (bytes : List ℕ) → AgreeOn past streams (with_input streams past bytes)
unfolding with_input
agrees streams past bytes session begun = rw begun refl

has_input : (streams : Streams) (past later : List Entry) (bytes : List ℕ) → IsOfInput (with_input streams past bytes) past later bytes
unfolding with_input
has_input streams past later bytes session unbegun begun = rw unbegun refl

whole_with_input : (streams : Streams) (depot : ShelfView) (store : StateView) (bytes : List ℕ) → IsWholeStore streams depot store → IsWholeStore (with_input streams (past_of store) bytes) depot store
whole_with_input streams depot store bytes is =
    let n = numbers_of store.profile in
    let table = with_input streams (past_of store) bytes in
    let same = agrees streams (past_of store) bytes in
    record {
      objects = is.objects;
      told = is.told;
      journal = is.journal;
      legal = is.legal;
      of_streams = of_streams_agrees n (rules_of 8 8 store) streams table (past_of store) is.legal same is.of_streams;
      whole = whole_agrees n (rules_of 8 8 store) streams table (past_of store) is.objects is.legal same is.whole;
    }

-- ---- the status of an answer that is due

abbrev IsPlain : ℕ → Type 0
IsPlain status = (status ≡ 0) ⊎ ((status ≡ 2) ⊎ ((status ≡ 7) ⊎ (status ≡ 8)))

due_plain : (store new : StateView) (files : Objects) (answer : JobAnswer) (kind : JobKind) → IsDue store new files answer kind → IsPlain (answer_status answer)
due_plain store new files job.Ok kind due = inl refl
due_plain store new files (job.Backup backup.Taken) kind due = inr (inl refl)
due_plain store new files (job.Backup backup.NoInput) kind due = inr (inl refl)
due_plain store new files (job.Backup backup.TooLong) kind due = inr (inr (inl refl))
due_plain store new files (job.Backup backup.Full) kind due = inr (inr (inl refl))
due_plain store new files (job.Backup backup.Memory) kind due = inr (inr (inr refl))
due_plain store new files (job.Backup backup.InputFault) kind due = absurd due
due_plain store new files (job.Backup backup.DepotFault) kind due = absurd due
due_plain store new files (job.Backup (backup.Damaged want got)) kind due = absurd due
due_plain store new files (job.Backup (backup.Unlike text)) kind due = absurd due
due_plain store new files (job.Restore restore.Exists) kind due = inr (inl refl)
due_plain store new files (job.Restore restore.NoStream) kind due = inr (inl refl)
due_plain store new files (job.Restore restore.Full) kind due = inr (inr (inl refl))
due_plain store new files (job.Restore restore.Memory) kind due = inr (inr (inr refl))
due_plain store new files (job.Restore restore.OutputFault) kind due = absurd due
due_plain store new files (job.Restore restore.DepotFault) kind due = absurd due
due_plain store new files (job.Restore (restore.Damaged want got)) kind due = absurd due
due_plain store new files (job.Restore (restore.Unlike text)) kind due = absurd due
due_plain store new files (job.Delete name.NoStream) kind due = inr (inl refl)
due_plain store new files (job.Delete name.Full) kind due = inr (inr (inl refl))
due_plain store new files (job.Delete name.Memory) kind due = inr (inr (inr refl))
due_plain store new files (job.Reclaim reclaim.DepotFault) kind due = absurd due
due_plain store new files (job.Reclaim reclaim.Full) kind due = inr (inr (inl refl))
due_plain store new files (job.Reclaim reclaim.Memory) kind due = inr (inr (inr refl))
due_plain store new files (job.Stat add.Full) kind due = inr (inr (inl refl))
due_plain store new files (job.Stat add.Memory) kind due = inr (inr (inr refl))

-- it is that of the run, where no other stands
least_alone : (n : ℕ) → IsPlain n → least_status (n ∷ []) ≡ n
unfolding least_status least
least_alone n (inl is) = subst (λ k. least_status (k ∷ []) ≡ k) (sym is) refl
least_alone n (inr (inl is)) = subst (λ k. least_status (k ∷ []) ≡ k) (sym is) refl
least_alone n (inr (inr (inl is))) = subst (λ k. least_status (k ∷ []) ≡ k) (sym is) refl
least_alone n (inr (inr (inr is))) = subst (λ k. least_status (k ∷ []) ≡ k) (sym is) refl

pub duly_plain : (kind : JobKind) (store : StateView) (files : Objects) (before after : Shelves) (sink sink' : SinkView) (status : ℕ) → EndsDuly kind store files before after sink sink' status → (status ≡ 0) ⊎ ((status ≡ 2) ⊎ ((status ≡ 7) ⊎ (status ≡ 8)))
duly_plain kind store files before after sink sink' status (job_done done due kept printed_is status_is) = subst IsPlain (sym status_is) (due_plain store done.new files done.answer kind due)
duly_plain kind store files before after sink sink' status (no_author none seven) = inr (inr (inl seven))
duly_plain kind store files before after sink sink' status (memory_wanted eight) = inr (inr (inr eight))

-- ---- runs that end early

-- why one ends early, where the sink does not fail
ends_for : (why : Stop) (lines : List ℕ) (sink sink' : SinkView) (status : ℕ) → (SinkFailed sink sink' → ⊥) → Refuses why lines sink sink' status → (status ≡ status_of why) ⊎ (status ≡ 8)
ends_for why lines sink sink' status quiet (told status_is takes same) = inl status_is
ends_for why lines sink sink' status quiet (sink_failed status_is front rose) = absurd (quiet rose)
ends_for why lines sink sink' status quiet (no_memory status_is front same) = inr status_is

memory_for : (lines : List ℕ) (sink sink' : SinkView) (status : ℕ) → (SinkFailed sink sink' → ⊥) → Refuses stop.Memory lines sink sink' status → status ≡ 8
memory_for lines sink sink' status quiet refuses = elim (ends_for stop.Memory lines sink sink' status quiet refuses) [ inl eight ↦ eight | inr eight ↦ eight ]

-- that a store's journal has no cause of refusal, by the law of store_run
abbrev pub AreApart : Type 0
AreApart = (bytes : List ℕ) (store : StateView) (why : Stop) → status_of why ≡ 6 → IsStore bytes store → IsRefused why bytes → ⊥

only_memory : AreApart → (why : Stop) (bytes : List ℕ) (store : StateView) (before after : ℕ) (sink sink' : SinkView) (status : ℕ) → IsStore bytes store → (Rose before after → ⊥) → (SinkFailed sink sink' → ⊥) → IsRefused why bytes → OpeningCount (Err why) before after → Refuses why [] sink sink' status → status ≡ 8
only_memory apart stop.Memory bytes store before after sink sink' status is quiet sink_quiet refused count refuses = memory_for [] sink sink' status sink_quiet refuses
only_memory apart stop.DepotFault bytes store before after sink sink' status is quiet sink_quiet refused count refuses = absurd (quiet count)
only_memory apart stop.NotStore bytes store before after sink sink' status is quiet sink_quiet refused count refuses = absurd (apart bytes store stop.NotStore refl is refused)
only_memory apart (stop.BadEntry place) bytes store before after sink sink' status is quiet sink_quiet refused count refuses = absurd (apart bytes store (stop.BadEntry place) refl is refused)
only_memory apart (stop.IllegalEntry number) bytes store before after sink sink' status is quiet sink_quiet refused count refuses = absurd (apart bytes store (stop.IllegalEntry number) refl is refused)
only_memory apart (stop.UnfinishedSession session) bytes store before after sink sink' status is quiet sink_quiet refused count refuses = absurd (apart bytes store (stop.UnfinishedSession session) refl is refused)
only_memory apart (stop.UnfinishedReading reader) bytes store before after sink sink' status is quiet sink_quiet refused count refuses = absurd (apart bytes store (stop.UnfinishedReading reader) refl is refused)
only_memory apart stop.Usage bytes store before after sink sink' status is quiet sink_quiet refused count refuses = absurd refused
only_memory apart stop.TooLong bytes store before after sink sink' status is quiet sink_quiet refused count refuses = absurd refused
only_memory apart stop.AlreadyStore bytes store before after sink sink' status is quiet sink_quiet refused count refuses = absurd refused
only_memory apart stop.SourceFault bytes store before after sink sink' status is quiet sink_quiet refused count refuses = absurd refused
only_memory apart stop.Callers bytes store before after sink sink' status is quiet sink_quiet refused count refuses = absurd refused

-- a closed store that was not opened
not_opened_is : AreApart → (streams : Streams) (store : StateView) (depot depot' : ShelfView) (sink sink' : SinkView) (status : ℕ) (why : Stop) → IsClosedStore streams depot store → (ShelfFailed depot depot' → ⊥) → (SinkFailed sink sink' → ⊥) → Opens depot depot' (Err why) → Refuses why [] sink sink' status → status ≡ 8
not_opened_is apart streams store depot depot' sink sink' status why is quiet sink_quiet opens refuses =
    let bytes = bytes_of is.whole.objects journal_name in
    let refused = subst (λ held. IfSome held (λ (o : Objects). IsOpening (Err why) (bytes_of o journal_name))) is.whole.told opens.told in
    only_memory apart why bytes store depot.faults depot'.faults sink sink' status
    (record { journal = is.whole.journal; legal = is.whole.legal; no_session = is.no_session; no_reading = is.no_reading })
    quiet sink_quiet refused opens.count refuses

-- ---- counts of faults in a run

append_moves : (kept : Kept) (before after : ℕ) → AppendCount kept before after → Moved before after
append_moves (Ok done) before after is = inl is
append_moves (Err added.Shelf) before after is = inr is
append_moves (Err added.Memory) before after is = inl is

module _ (apart : AreApart) (streams : Streams) (store : StateView) (files : Objects) (before after : Shelves) (sink sink' : SinkView) (status : ℕ) (is : IsClosedStore streams before.depot store) (files_told : before.files.held ≡ Some files) (quiet : NoneFailed before after) (sink_quiet : SinkFailed sink sink' → ⊥) where
  same_store_as : (depot' : ShelfView) (found : StateView) → Opens before.depot depot' (Ok found) → found ≡ store
  same_store_as depot' found opens =
      let opened = told_store before.depot depot' found is.whole.objects opens is.whole.told in
      one_store (bytes_of is.whole.objects journal_name) found store opened.journal is.whole.journal

  -- a job that was done

  none_inside : (kind : JobKind) (done : HasDoneJob kind before after sink sink' status) → NoneFailed done.opened done.done
  none_inside kind done = record {
    files = λ rose. quiet.files
        (subst (λ (f : ShelfView). Rose f.faults after.files.faults) done.files_same
        (subst (λ (f : ShelfView). Rose done.opened.files.faults f.faults) (sym done.files_kept) rose));
    depot = λ rose. quiet.depot
        (subst (λ n. Rose n after.depot.faults) done.opens.count
        (rose_then done.opened.depot.faults done.done.depot.faults after.depot.faults rose (append_moves done.ending.kept done.done.depot.faults after.depot.faults done.ending.keep_count)));
  }

  append_rose : (kind : JobKind) (done : HasDoneJob kind before after sink sink' status) → Rose done.done.depot.faults after.depot.faults → ⊥
  append_rose kind done rose =
      quiet.depot
      (subst (λ n. Rose n after.depot.faults) done.opens.count
      (then_rose done.opened.depot.faults done.done.depot.faults after.depot.faults (job_moves kind before after sink sink' status done) rose))

  backup_is_due : (input asked : List ℕ) (done : HasDoneJob (Backup input asked) before after sink sink' status) → NoneFailed done.opened done.done → IsDue done.store done.new files done.answer (Backup input asked)
  backup_is_due input asked done none =
      let stream = bytes_of files input in
      let table = with_input streams (past_of store) stream in
      let same = same_store_as done.opened.depot done.store done.opens in
      let file : HasFile input table before.files (past_of done.store) (past_of done.new) = record {
        objects = files;
        told = files_told;
        of_input = subst (λ (s : StateView). IsOfInput table (past_of s) (past_of done.new) stream) (sym same) (has_input streams (past_of store) (past_of done.new) stream);
      } in
      let fine = backup_answered table store input asked before after sink sink' status done (whole_with_input streams before.depot store stream is.whole) file none in
      let run : HasRunAlone 8 8 done.author done.opened.files done.done.files input asked done.store done.new done.opened.depot done.done.depot [] done.cache done.job.result = done.job.done in
      let closed = subst IsClosed (sym run.after_is) (left_closed (Backup input asked) before after sink sink' status done) in
      subst (λ (a : JobAnswer). IsDue done.store done.new files a (Backup input asked)) (sym done.job.answer_is)
      (subst (λ (s : StateView). IsDue done.store s files (answer_of job.Backup done.job.result) (Backup input asked)) run.after_is
      (backup_due done.store done.author input asked files done.opened.files (ap (λ (f : ShelfView). f.held) done.files_same ∙ files_told) run.after closed done.opened.depot done.done.depot [] done.cache done.job.result fine run.answer))

  job_is_due : (kind : JobKind) (done : HasDoneJob kind before after sink sink' status) → done.ending.kept ≡ Ok tt → IsDue done.store done.new files done.answer kind
  job_is_due (Backup input asked) done kept = backup_is_due input asked done (none_inside (Backup input asked) done)
  job_is_due (Restore asked output) done kept =
      restore_is_due asked output files before after sink sink' status done files_told (none_inside (Restore asked output) done)
      (λ fault failed. (whole_front streams store asked output before after sink sink' status done is.whole fault failed).0)
  job_is_due (Delete asked) done kept = delete_is_due asked files before after sink sink' status done
  job_is_due Reclaim done kept = reclaim_is_due files before after sink sink' status done (none_inside Reclaim done).depot
  job_is_due Stat done kept = stat_is_due files before after sink sink' status done

  -- how it ends

  job_ends : (kind : JobKind) (done : HasDoneJob kind before after sink sink' status) (kept : Kept) (printed_so : Printed) → done.ending.kept ≡ kept → done.ending.printed ≡ printed_so → AppendCount kept done.done.depot.faults after.depot.faults → HasCause sink.faults sink'.faults printed_so
      → status ≡ run_status (answer_status done.answer) kept printed_so → EndsDuly kind store files before after sink sink' status
  job_ends kind done (Err added.Memory) printed_so kept_is printed_is count cause status_is = memory_wanted status_is
  job_ends kind done (Err added.Shelf) printed_so kept_is printed_is count cause status_is = absurd (append_rose kind done count)
  job_ends kind done (Ok all) (Err trouble.Fault) kept_is printed_is count cause status_is = absurd (sink_quiet (cause.fault refl))
  job_ends kind done (Ok all) (Err trouble.Memory) kept_is printed_is count cause status_is = memory_wanted status_is
  job_ends kind done (Ok all) (Ok whole) kept_is printed_is count cause status_is =
      let due = subst (λ (s : StateView). IsDue s done.new files done.answer kind) (same_store_as done.opened.depot done.store done.opens) (job_is_due kind done kept_is) in
      job_done done due kept_is printed_is (status_is ∙ least_alone (answer_status done.answer) (due_plain store done.new files done.answer kind due))

  pub ends_duly : (kind : JobKind) → JobRun kind before after sink sink' status → EndsDuly kind store files before after sink sink' status
  ends_duly kind (ran done) = job_ends kind done done.ending.kept done.ending.printed refl refl done.ending.keep_count done.ending.print_count done.ending.status_is
  ends_duly kind (not_opened why opens same refuses) = memory_wanted (not_opened_is apart streams store before.depot after.depot sink sink' status why is quiet.depot sink_quiet opens refuses)
  ends_duly kind (no_cache found opens same refuses) = memory_wanted (memory_for [] sink sink' status sink_quiet refuses)
  ends_duly kind (none_left found opens none same refuses) = elim (ends_for stop.Callers [] sink sink' status sink_quiet refuses) [
    | inl seven ↦ no_author (subst (λ (s : StateView). author_after (past_of s) ≡ None) (same_store_as after.depot found opens) none) seven
    | inr eight ↦ memory_wanted eight
  ]

-- ---- the other commands

pub init_ends : (profile : Profile) (depot depot' : ShelfView) (sink sink' : SinkView) (status : ℕ) → InitAnswer profile depot depot' sink sink' status → (ShelfFailed depot depot' → ⊥) → (SinkFailed sink sink' → ⊥)
    → (status ≡ 0) ⊎ (((status ≡ 11) × HasJournal depot) ⊎ (status ≡ 8))
init_ends profile depot depot' sink sink' status (made zero none new same) quiet sink_quiet = inl zero
init_ends profile depot depot' sink sink' status (not_made stop.AlreadyStore unmade refuses) quiet sink_quiet = elim (ends_for stop.AlreadyStore [] sink sink' status sink_quiet refuses) [
  | inl eleven ↦ inr (inl (eleven, unmade.0))
  | inr eight ↦ inr (inr eight)
]
init_ends profile depot depot' sink sink' status (not_made stop.DepotFault unmade refuses) quiet sink_quiet = absurd (quiet unmade.1)
init_ends profile depot depot' sink sink' status (not_made stop.Memory unmade refuses) quiet sink_quiet = inr (inr (memory_for [] sink sink' status sink_quiet refuses))
init_ends profile depot depot' sink sink' status (not_made stop.Usage unmade refuses) quiet sink_quiet = absurd unmade
init_ends profile depot depot' sink sink' status (not_made stop.TooLong unmade refuses) quiet sink_quiet = absurd unmade
init_ends profile depot depot' sink sink' status (not_made stop.SourceFault unmade refuses) quiet sink_quiet = absurd unmade
init_ends profile depot depot' sink sink' status (not_made stop.NotStore unmade refuses) quiet sink_quiet = absurd unmade
init_ends profile depot depot' sink sink' status (not_made (stop.BadEntry place) unmade refuses) quiet sink_quiet = absurd unmade
init_ends profile depot depot' sink sink' status (not_made (stop.IllegalEntry number) unmade refuses) quiet sink_quiet = absurd unmade
init_ends profile depot depot' sink sink' status (not_made (stop.UnfinishedSession session) unmade refuses) quiet sink_quiet = absurd unmade
init_ends profile depot depot' sink sink' status (not_made (stop.UnfinishedReading reader) unmade refuses) quiet sink_quiet = absurd unmade
init_ends profile depot depot' sink sink' status (not_made stop.Callers unmade refuses) quiet sink_quiet = absurd unmade

pub listing_ends : AreApart → (streams : Streams) (store : StateView) (depot depot' : ShelfView) (sink sink' : SinkView) (status : ℕ) → JournalAnswer depot depot' sink sink' status → IsClosedStore streams depot store → (ShelfFailed depot depot' → ⊥) → (SinkFailed sink sink' → ⊥)
    → ((status ≡ 0) × Takes sink sink' (entry_lines 0 store.entries)) ⊎ (status ≡ 8)
listing_ends apart streams store depot depot' sink sink' status (listed found zero opens takes same) is quiet sink_quiet =
    let opened = told_store depot depot' found is.whole.objects opens is.whole.told in
    let same_store = one_store (bytes_of is.whole.objects journal_name) found store opened.journal is.whole.journal in
    inl (zero, subst (λ (s : StateView). Takes sink sink' (entry_lines 0 s.entries)) same_store takes)
listing_ends apart streams store depot depot' sink sink' status (not_read why opens refuses) is quiet sink_quiet = inr (not_opened_is apart streams store depot depot' sink sink' status why is quiet sink_quiet opens refuses)
listing_ends apart streams store depot depot' sink sink' status (listing_failed found nine opens front rose) is quiet sink_quiet = absurd (sink_quiet rose)
listing_ends apart streams store depot depot' sink sink' status (listing_wanted_memory found eight opens front same) is quiet sink_quiet = inr eight

pub stream_ends : (text : Stage → List ℕ → List ℕ) (source source' : SourceView) (sink sink' : SinkView) (status : ℕ) → StreamAnswer text source source' sink sink' status → (SourceFailed source source' → ⊥) → (SinkFailed sink sink' → ⊥)
    → (status ≡ 0) ⊎ (((status ≡ 7) × ((lines : List ℕ) × EndsAtLimit max_stream source source' (text so_far) lines)) ⊎ (status ≡ 8))
stream_ends text source source' sink sink' status (printed zero all same still) quiet sink_quiet = inl zero
stream_ends text source source' sink sink' status (line_failed nine cut same rose) quiet sink_quiet = absurd (sink_quiet rose)
stream_ends text source source' sink sink' status (line_wanted_memory eight cut same still) quiet sink_quiet = inr (inr eight)
stream_ends text source source' sink sink' status (ended_early stop.TooLong lines ends count refuses) quiet sink_quiet = elim (ends_for stop.TooLong lines sink sink' status sink_quiet refuses) [
  | inl seven ↦ inr (inl (seven, (lines, ends)))
  | inr eight ↦ inr (inr eight)
]
stream_ends text source source' sink sink' status (ended_early stop.SourceFault lines ends count refuses) quiet sink_quiet = absurd (quiet count)
stream_ends text source source' sink sink' status (ended_early stop.Memory lines ends count refuses) quiet sink_quiet = inr (inr (memory_for lines sink sink' status sink_quiet refuses))
stream_ends text source source' sink sink' status (ended_early stop.Usage lines ends count refuses) quiet sink_quiet = absurd ends
stream_ends text source source' sink sink' status (ended_early stop.AlreadyStore lines ends count refuses) quiet sink_quiet = absurd ends
stream_ends text source source' sink sink' status (ended_early stop.DepotFault lines ends count refuses) quiet sink_quiet = absurd ends
stream_ends text source source' sink sink' status (ended_early stop.NotStore lines ends count refuses) quiet sink_quiet = absurd ends
stream_ends text source source' sink sink' status (ended_early (stop.BadEntry place) lines ends count refuses) quiet sink_quiet = absurd ends
stream_ends text source source' sink sink' status (ended_early (stop.IllegalEntry number) lines ends count refuses) quiet sink_quiet = absurd ends
stream_ends text source source' sink sink' status (ended_early (stop.UnfinishedSession session) lines ends count refuses) quiet sink_quiet = absurd ends
stream_ends text source source' sink sink' status (ended_early (stop.UnfinishedReading reader) lines ends count refuses) quiet sink_quiet = absurd ends
stream_ends text source source' sink sink' status (ended_early stop.Callers lines ends count refuses) quiet sink_quiet = absurd ends
