-- The answers of jobs, where nothing keeps them off.
use Rattle.std.proofs.Common.{◌≡◌, ℕ, true, false, List, take, Option, None, Some, refl, sym, ap, ◌∙◌, subst, arith}
use Rattle.std.specs.Prelude.{IfSome, Result, Ok, Err}
use Rattle.std.specs.FinMap.{contains_key}
use Rattle.outside.specs.Faults.{Rose}
use Rattle.outside.specs.Shelf.{Objects}
use Rattle.outside.specs.Views.{ShelfView, SinkView}
use Rattle.outside.specs.declared.trouble.Trouble.{Trouble}
use Rattle.outside.specs.declared.trouble.Trouble.TheVariants as trouble
use Rattle.journal_entry.specs.declared.entry.Totals.{Totals}
use Rattle.journal_entry.specs.declared.entry.Point.TheVariants as point
use Rattle.journal_entry.specs.Weight.{point_weight}
use Rattle.history.specs.Need.{erasable}
use Rattle.history.specs.Sessions.{retained}
use Rattle.history.specs.TotalsOf.{totals}
use Rattle.store_core.specs.declared.fault.NameFault.{NameFault}
use Rattle.store_core.specs.declared.fault.NameFault.TheVariants as name
use Rattle.store_core.specs.declared.fault.PointFault.{PointFault}
use Rattle.store_core.specs.declared.fault.PointFault.TheVariants as add
use Rattle.store_core.specs.View.{StateView, past_of}
use Rattle.store_core.specs.Answers.{DeleteAnswer, StatAnswer, ReclaimAnswer}
use Rattle.depot.specs.declared.fault.LoadFault.{LoadFault}
use Rattle.depot.specs.declared.fault.LoadFault.TheVariants as load
use Rattle.depot.specs.declared.fault.ReadFault.{ReadFault}
use Rattle.depot.specs.declared.fault.ReadFault.TheVariants as chunk
use Rattle.depot.specs.declared.fault.RestoreFault.{RestoreFault}
use Rattle.depot.specs.declared.fault.RestoreFault.TheVariants as restore
use Rattle.restore.specs.Copies.{Shelves, StopsAtChunk, StopsAtManifest, StreamCopy}
use Rattle.restore.specs.Copies.StopsAtChunk.{not_read, not_added}
use Rattle.restore.specs.Copies.StopsAtManifest.{not_loaded, in_chunks}
use Rattle.restore.specs.Copies.StreamCopy.{not_made, made as output_made}
use Rattle.restore.specs.Faults.{output_fault, load_fault, chunk_fault}
use Rattle.restore.specs.Reads.{Listed}
use Rattle.store_core.specs.View.{KeptView}
use Rattle.restore.specs.Restores.{StateCalls, RestoreAnswer, RestoreCause}
use Rattle.restore.specs.Restores.RestoreAnswer.{not_asked, exists, not_looked, copied}
use Rattle.restored_streams.specs.Complete.{NoneFailed}
use Rattle.restored_streams.specs.Restored.{TellsNoDamage}
use Rattle.restored_streams.proofs.AnsweredLaws.{answered_so}
use Rattle.job_script.specs.declared.job.JobKind.TheVariants.{Restore, Delete, Reclaim, Stat}
use Rattle.report.specs.declared.answer.JobAnswer.{JobAnswer}
use Rattle.report.specs.declared.answer.JobAnswer.TheVariants as job
use Rattle.job_run.specs.Erasing.{of_point, LastReclaim, ReclaimsDone}
use Rattle.job_run.specs.Erasing.LastReclaim.{few, troubled, unmade}
use Rattle.job_run.specs.Jobs.{answer_of}
use Rattle.store_run.specs.JobRun.{HasDoneJob}
use Rattle.run_streams.specs.Answered.{IsDue}
use Rattle.run_streams.proofs.CountLaws.{Moved, reclaims_move, failed_rose}
use Rattle.run_streams.proofs.FullLaws.{IsClosed, left_closed, plain_full, look_full}

-- ---- a delete

delete_due : (old new : StateView) (author : ℕ) (asked : List ℕ) (files : Objects) (result : Result ℕ NameFault) → IsClosed new → DeleteAnswer old new author asked result → IsDue old new files (answer_of job.Delete result) (Delete asked)
unfolding point_weight
delete_due old new author asked files (Ok session) closed is = tt
delete_due old new author asked files (Err name.NoStream) closed is = is.0
delete_due old new author asked files (Err name.Full) closed is =
    plain_full old new author (point.Delete asked (retained asked (past_of old))) closed tt (omega arith) is
delete_due old new author asked files (Err name.Memory) closed is = tt

pub delete_is_due : (asked : List ℕ) (files : Objects) (before after : Shelves) (sink sink' : SinkView) (status : ℕ) (done : HasDoneJob (Delete asked) before after sink sink' status) → IsDue done.store done.new files done.answer (Delete asked)
delete_is_due asked files before after sink sink' status done =
    subst (λ (a : JobAnswer). IsDue done.store done.new files a (Delete asked)) (sym done.job.0.answer_is)
    (delete_due done.store done.new done.author asked files done.job.0.result (left_closed (Delete asked) before after sink sink' status done) done.job.0.done)

-- ---- a stat

stat_due : (old new : StateView) (author : ℕ) (files : Objects) (result : Result Totals PointFault) → IsClosed new → StatAnswer old new author result → IsDue old new files (answer_of job.Stat result) Stat
unfolding point_weight
stat_due old new author files (Ok given) closed is = tt
stat_due old new author files (Err add.Full) closed is =
    plain_full old new author (point.Stat (totals (past_of old))) closed tt (omega arith) is
stat_due old new author files (Err add.Memory) closed is = tt

pub stat_is_due : (files : Objects) (before after : Shelves) (sink sink' : SinkView) (status : ℕ) (done : HasDoneJob Stat before after sink sink' status) → IsDue done.store done.new files done.answer Stat
stat_is_due files before after sink sink' status done =
    subst (λ (a : JobAnswer). IsDue done.store done.new files a Stat) (sym done.job.0.answer_is)
    (stat_due done.store done.new done.author files done.job.0.result (left_closed Stat before after sink sink' status done) done.job.0.done)

-- ---- a reclaim

refused_due : (store between new : StateView) (author : ℕ) (files : Objects) (cause : PointFault) → IsClosed new → ReclaimAnswer between new author (Err cause) → IsDue store new files (of_point cause) Reclaim
unfolding point_weight
refused_due store between new author files add.Full closed is =
    plain_full between new author (point.Reclaim (take 16 (erasable (past_of between)))) closed tt (omega arith) is
refused_due store between new author files add.Memory closed is = tt

last_due : (store between new : StateView) (author : ℕ) (files : Objects) (depot shelf depot' : ShelfView) (answer : JobAnswer) → IsClosed new → (Rose depot.faults depot'.faults → ⊥) → Moved depot.faults shelf.faults → LastReclaim author between new shelf depot' answer → IsDue store new files answer Reclaim
last_due store between new author files depot shelf depot' answer closed quiet moved (few removals answer_is reclaimed fewer erased) =
    subst (λ (a : JobAnswer). IsDue store new files a Reclaim) (sym answer_is) tt
last_due store between new author files depot shelf depot' answer closed quiet moved (troubled removals trouble.Fault answer_is reclaimed erased) =
    absurd (quiet (failed_rose depot shelf depot' removals.items moved erased))
last_due store between new author files depot shelf depot' answer closed quiet moved (troubled removals trouble.Memory answer_is reclaimed erased) =
    subst (λ (a : JobAnswer). IsDue store new files a Reclaim) (sym answer_is) tt
last_due store between new author files depot shelf depot' answer closed quiet moved (unmade cause answer_is refused same) =
    subst (λ (a : JobAnswer). IsDue store new files a Reclaim) (sym answer_is) (refused_due store between new author files cause closed refused)

pub reclaim_is_due : (files : Objects) (before after : Shelves) (sink sink' : SinkView) (status : ℕ) (done : HasDoneJob Reclaim before after sink sink' status) → (Rose done.opened.depot.faults done.done.depot.faults → ⊥) → IsDue done.store done.new files done.answer Reclaim
reclaim_is_due files before after sink sink' status done quiet =
    let is : ReclaimsDone done.author done.store done.new done.opened.depot done.done.depot done.answer = done.job.0 in
    last_due done.store is.between done.new done.author files done.opened.depot is.shelf done.done.depot done.answer (left_closed Reclaim before after sink sink' status done) quiet
    (reclaims_move done.author done.store done.opened.depot is.between is.shelf is.earlier) is.last

-- ---- a restore

-- copying meets no full journal
abbrev NotFull : RestoreFault → Type 0
NotFull restore.Full = ⊥
NotFull _ = Unit {0}

of_output : (why : Trouble) → NotFull (output_fault why)
of_output trouble.Fault = tt
of_output trouble.Memory = tt

of_load : (why : LoadFault) → NotFull (load_fault why)
of_load load.Shelf = tt
of_load (load.Damaged want got) = tt
of_load (load.Unlike text) = tt
of_load load.Memory = tt

of_chunk : (why : ReadFault) → NotFull (chunk_fault why)
of_chunk chunk.Shelf = tt
of_chunk (chunk.Damaged want got) = tt
of_chunk chunk.Memory = tt

same_fault : (one other : RestoreFault) (result : Result ℕ RestoreFault) → result ≡ Err one → result ≡ Err other → one ≡ other
same_fault one other result is too = cc

at_chunk : (output : List ℕ) (before after : Shelves) (listed : Listed) (fault : RestoreFault) → StopsAtChunk output before after listed fault → NotFull fault
at_chunk output before after listed fault (not_read why is answer same) = subst NotFull (sym is) (of_chunk why)
at_chunk output before after listed fault (not_added bytes why is read failed) = subst NotFull (sym is) (of_output why)

at_manifest : (output : List ℕ) (before after : Shelves) (kept : KeptView) (fault : RestoreFault) → StopsAtManifest output before after kept fault → NotFull fault
at_manifest output before after kept fault (not_loaded why is answer same) = subst NotFull (sym is) (of_load why)
at_manifest output before after kept fault (in_chunks manifest loaded stops) = at_chunk _ _ _ _ fault stops.stops

copy_not_full : (output : List ℕ) (before after : Shelves) (kepts : List KeptView) (fault : RestoreFault) → StreamCopy output before after kepts (Err fault) → NotFull fault
copy_not_full output before after kepts fault (not_made why is failed same) = subst NotFull (sym (same_fault fault (output_fault why) (Err fault) refl is)) (of_output why)
copy_not_full output before after kepts fault (output_made stops) = at_manifest _ _ _ _ fault stops.stops

module _ (old new : StateView) (author : ℕ) (asked output : List ℕ) (files : Objects) (before after : Shelves) (closed : IsClosed new) where
  abbrev Due : Result ℕ RestoreFault → Type 0
  Due result = IsDue old new files (answer_of job.Restore result) (Restore asked output)

  -- where the look was refused
  full_due : RestoreAnswer (StateCalls old author asked new) output before after (Err restore.Full) → Due (Err restore.Full)
  full_due (not_asked why is calls failed same) = absurd (subst NotFull (sym (same_fault restore.Full (output_fault why) (Err restore.Full) refl is)) (of_output why))
  full_due (exists is calls there same) = absurd (subst NotFull (sym (same_fault restore.Full restore.Exists (Err restore.Full) refl is)) tt)
  full_due (copied found calls absent copy) = absurd (copy_not_full output before after found.manifests.items restore.Full copy)
  full_due (not_looked name.Full is calls absent same) = look_full old new author asked closed calls
  full_due (not_looked name.NoStream is calls absent same) = absurd (subst NotFull (sym (same_fault restore.Full restore.NoStream (Err restore.Full) refl is)) tt)
  full_due (not_looked name.Memory is calls absent same) = absurd (subst NotFull (sym (same_fault restore.Full restore.Memory (Err restore.Full) refl is)) tt)

  no_stream : (found : Option ℕ) → retained asked (past_of old) ≡ found → RestoreAnswer (StateCalls old author asked new) output before after (Err restore.NoStream) → RestoreCause output before after (Err restore.NoStream)
      → before.files.held ≡ Some files → NoneFailed before after → retained asked (past_of old) ≡ None
  no_stream None is answer cause told none = is
  no_stream (Some session) is answer cause told none =
      let absent = subst (λ held. IfSome held (λ (objects : Objects). contains_key objects output ≡ false)) told cause.0 in
      absurd (answered_so old new author asked session files output before after (Err restore.NoStream) is answer cause told absent none (λ fault failed. subst TellsNoDamage (same_fault restore.NoStream fault (Err restore.NoStream) refl failed) tt))

  restore_due : (result : Result ℕ RestoreFault) → RestoreAnswer (StateCalls old author asked new) output before after result → RestoreCause output before after result → before.files.held ≡ Some files → NoneFailed before after → ((fault : RestoreFault) → result ≡ Err fault → TellsNoDamage fault) → Due result
  restore_due (Ok count) answer cause told none fine = tt
  restore_due (Err restore.Exists) answer cause told none fine = subst (λ held. IfSome held (λ (objects : Objects). contains_key objects output ≡ true)) told cause.0
  restore_due (Err restore.NoStream) answer cause told none fine = no_stream (retained asked (past_of old)) refl answer cause told none
  restore_due (Err restore.OutputFault) answer cause told none fine = absurd (none.files cause)
  restore_due (Err restore.DepotFault) answer cause told none fine = absurd (none.depot cause.1)
  restore_due (Err (restore.Damaged want got)) answer cause told none fine = absurd (fine (restore.Damaged want got) refl)
  restore_due (Err (restore.Unlike text)) answer cause told none fine = absurd (fine (restore.Unlike text) refl)
  restore_due (Err restore.Full) answer cause told none fine = full_due answer
  restore_due (Err restore.Memory) answer cause told none fine = tt

pub restore_is_due : (asked output : List ℕ) (files : Objects) (before after : Shelves) (sink sink' : SinkView) (status : ℕ) (done : HasDoneJob (Restore asked output) before after sink sink' status) → before.files.held ≡ Some files → NoneFailed done.opened done.done → ((fault : RestoreFault) → done.job.result ≡ Err fault → TellsNoDamage fault)
    → IsDue done.store done.new files done.answer (Restore asked output)
restore_is_due asked output files before after sink sink' status done told none fine =
    subst (λ (a : JobAnswer). IsDue done.store done.new files a (Restore asked output)) (sym done.job.answer_is)
    (restore_due done.store done.new done.author asked output files done.opened done.done (left_closed (Restore asked output) before after sink sink' status done) done.job.result done.job.done done.job.cause (ap (λ (f : ShelfView). f.held) done.files_same ∙ told) none fine)
