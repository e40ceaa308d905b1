-- What jobs in a whole store answer.
use Rattle.std.proofs.Common.{◌≡◌, ◌⊎◌, false, ℕ, List, Some, refl, sym, ap, ◌∙◌, subst, []}
use Rattle.std.specs.Prelude.{Result, Ok, Err}
use Rattle.std.specs.FinMap.{contains_key}
use Rattle.std.specs.List.{All}
use Rattle.ss_base.specs.Profile.{numbers_of}
use Rattle.ss_base.proofs.SoundLaws.{AreSound-numbers_of}
use Rattle.outside.specs.Shelf.{Objects, bytes_of}
use Rattle.outside.specs.Faults.{Rose}
use Rattle.outside.specs.Views.{ShelfView, SinkView}
use Rattle.journal_entry.specs.Bounds.{IsEntry}
use Rattle.history.specs.Sessions.{retained}
use Rattle.journal_file.specs.Header.{journal_name}
use Rattle.store_core.specs.View.{StateView, past_of, rules_of}
use Rattle.depot.specs.declared.fault.BackupFault.{BackupFault}
use Rattle.depot.specs.declared.fault.BackupFault.TheVariants as backup
use Rattle.depot.specs.declared.fault.RestoreFault.{RestoreFault}
use Rattle.restore.specs.Copies.{Shelves}
use Rattle.restore.specs.Restores.{StateCalls, RestoreAnswer}
use Rattle.history_calls.specs.Tokens.{IdleView}
use Rattle.session.specs.Backup.{BackupAnswer, HasRunAlone}
use Rattle.session.specs.Causes.{InputAnswer, DepotAnswer}
use Rattle.stored_streams.specs.Streams.{Streams}
use Rattle.stored_streams.specs.OfStreams.{IsOfStreams}
use Rattle.stored_streams.specs.Whole.{IsWhole}
use Rattle.restored_streams.specs.Complete.{NoneFailed, IsAnswered}
use Rattle.restored_streams.specs.Restored.{HasRestored, LeavesFront, TellsNoDamage as RestoreUndamaged, ChunksCollide}
use Rattle.restored_streams.proofs.AnsweredLaws.{answered_so}
use Rattle.restored_streams.proofs.CallLaws.{answered_undamaged}
use Rattle.restored_streams.proofs.StreamLaws.{IsKnown as Known}
use Rattle.backed_up_streams.specs.OfInput.{IsOfInput}
use Rattle.backed_up_streams.specs.NoDamage.{TellsNoDamage as Undamaged}
use Rattle.backed_up_streams.proofs.AloneLaws.{alone}
use Rattle.backed_up_streams.proofs.DamageLaws.{no_damage}
use Rattle.job_script.specs.declared.job.JobKind.TheVariants.{Backup, Restore}
use Rattle.store_run.specs.JobRun.{HasDoneJob}
use Rattle.store_run.specs.Opening.{IsLegal}
use Rattle.run_streams.specs.Answered.{IsNoFault}
use Rattle.run_streams.specs.RunStreams.{HasFile}
use Rattle.run_streams.specs.WholeStores.{IsWholeStore}
use Rattle.run_streams.proofs.OpenedLaws.{told_store, store_entries, entries_read}
use Rattle.run_streams.proofs.RestoreLaws.{whole_given_back, whole_front_left}
use Rattle.run_streams.proofs.WholeRunLaws.{one_store}

-- a restore from a whole store
pub whole_restored : (streams : Streams) (store : StateView) (name output : List ℕ) (before after : Shelves) (sink sink' : SinkView) → HasDoneJob (Restore name output) before after sink sink' 0 → IsWholeStore streams before.depot store
    → ((count : ℕ) × HasRestored streams (past_of store) name output before.files after.files count) ⊎ ChunksCollide (numbers_of store.profile) streams (past_of store)
whole_restored streams store name output before after sink sink' done is =
    let opened = told_store before.depot done.opened.depot done.store is.objects done.opens is.told in
    let same : done.store ≡ store = one_store (bytes_of is.objects journal_name) done.store store opened.journal is.journal in
    let was = subst (λ (s : StateView). IsOfStreams (numbers_of s.profile) streams (past_of s)) (sym same) is.of_streams in
    let whole = subst (λ (s : StateView). IsWhole (numbers_of s.profile) streams (past_of s) is.objects) (sym same) is.whole in
    subst (λ (s : StateView). ((count : ℕ) × HasRestored streams (past_of s) name output before.files after.files count) ⊎ ChunksCollide (numbers_of s.profile) streams (past_of s)) same
    (whole_given_back streams name output before after sink sink' 0 done was refl is.objects is.told whole)

-- or one that did not answer
pub whole_front : (streams : Streams) (store : StateView) (name output : List ℕ) (before after : Shelves) (sink sink' : SinkView) (status : ℕ) (done : HasDoneJob (Restore name output) before after sink sink' status) → IsWholeStore streams before.depot store → (fault : RestoreFault) → done.job.result ≡ Err fault
    → RestoreUndamaged fault × (LeavesFront streams (past_of store) name output before.files after.files ⊎ ChunksCollide (numbers_of store.profile) streams (past_of store))
whole_front streams store name output before after sink sink' status done is fault failed =
    let opened = told_store before.depot done.opened.depot done.store is.objects done.opens is.told in
    let same : done.store ≡ store = one_store (bytes_of is.objects journal_name) done.store store opened.journal is.journal in
    let was = subst (λ (s : StateView). IsOfStreams (numbers_of s.profile) streams (past_of s)) (sym same) is.of_streams in
    let whole = subst (λ (s : StateView). IsWhole (numbers_of s.profile) streams (past_of s) is.objects) (sym same) is.whole in
    subst (λ (s : StateView). RestoreUndamaged fault × (LeavesFront streams (past_of s) name output before.files after.files ⊎ ChunksCollide (numbers_of s.profile) streams (past_of s))) same
    (whole_front_left streams name output before after sink sink' status done was fault failed is.objects is.told whole)

-- a restore that nothing keeps off
pub restore_answered : (streams : Streams) (store : StateView) (files : Objects) (session : ℕ) (name output : List ℕ) (before after : Shelves) (sink sink' : SinkView) (status : ℕ) (done : HasDoneJob (Restore name output) before after sink sink' status) → IsWholeStore streams before.depot store
    → retained name (past_of store) ≡ Some session → before.files.held ≡ Some files → contains_key files output ≡ false → NoneFailed done.opened done.done → IsAnswered done.store done.new done.job.result
restore_answered streams store files session name output before after sink sink' status done is held told absent none_failed =
    let opened = told_store before.depot done.opened.depot done.store is.objects done.opens is.told in
    let same : done.store ≡ store = one_store (bytes_of is.objects journal_name) done.store store opened.journal is.journal in
    let n = numbers_of done.store.profile in
    let rules = rules_of 8 8 done.store in
    let was = subst (λ (s : StateView). IsOfStreams (numbers_of s.profile) streams (past_of s)) (sym same) is.of_streams in
    let whole = subst (λ (s : StateView). IsWhole (numbers_of s.profile) streams (past_of s) is.objects) (sym same) is.whole in
    let known : Known n streams rules (past_of done.store) =
    record { sound = AreSound-numbers_of done.store.profile; legal = opened.legal; entries = store_entries (bytes_of is.objects journal_name) done.store opened; of_streams = was } in
    let files_told : done.opened.files.held ≡ Some files = ap (λ (f : ShelfView). f.held) done.files_same ∙ told in
    answered_so done.store done.new done.author name session files output done.opened done.done done.job.result (subst (λ (s : StateView). retained name (past_of s) ≡ Some session) (sym same) held) done.job.done done.job.cause files_told absent none_failed
    (λ fault failed.
    answered_undamaged n streams rules is.objects done.store done.new done.author name output done.opened done.done fault known whole
    (subst (λ (r : Result ℕ RestoreFault). RestoreAnswer (StateCalls done.store done.author name done.new) output done.opened done.done r) failed done.job.done)
    (done.opens.only_reads.held ∙ is.told))

-- ---- a backup that nothing keeps off

-- of its answers some tell of a fault that a count shows, and some of damage
no_fault : (result : Result ℕ BackupFault) (files files' depot depot' : ℕ) → InputAnswer result files files' → DepotAnswer result depot depot' → (Rose files files' → ⊥) → (Rose depot depot' → ⊥) → ((fault : BackupFault) → result ≡ Err fault → Undamaged fault) → IsNoFault result
no_fault (Ok session) files files' depot depot' input_count depot_count none_files none_depot fine = tt
no_fault (Err backup.Taken) files files' depot depot' input_count depot_count none_files none_depot fine = tt
no_fault (Err backup.NoInput) files files' depot depot' input_count depot_count none_files none_depot fine = tt
no_fault (Err backup.TooLong) files files' depot depot' input_count depot_count none_files none_depot fine = tt
no_fault (Err backup.Full) files files' depot depot' input_count depot_count none_files none_depot fine = tt
no_fault (Err backup.Memory) files files' depot depot' input_count depot_count none_files none_depot fine = tt
no_fault (Err backup.InputFault) files files' depot depot' input_count depot_count none_files none_depot fine = none_files input_count
no_fault (Err backup.DepotFault) files files' depot depot' input_count depot_count none_files none_depot fine = none_depot depot_count
no_fault (Err (backup.Damaged want got)) files files' depot depot' input_count depot_count none_files none_depot fine = fine (backup.Damaged want got) refl
no_fault (Err (backup.Unlike text)) files files' depot depot' input_count depot_count none_files none_depot fine = fine (backup.Unlike text) refl

pub backup_answered : (streams : Streams) (store : StateView) (input name : List ℕ) (before after : Shelves) (sink sink' : SinkView) (status : ℕ) (done : HasDoneJob (Backup input name) before after sink sink' status) → IsWholeStore streams before.depot store
    → HasFile input streams before.files (past_of done.store) (past_of done.new) → NoneFailed done.opened done.done → IsNoFault done.job.result
backup_answered streams store input name before after sink sink' status done is file none_failed =
    let opened = told_store before.depot done.opened.depot done.store is.objects done.opens is.told in
    let same : done.store ≡ store = one_store (bytes_of is.objects journal_name) done.store store opened.journal is.journal in
    let was = subst (λ (s : StateView). IsOfStreams (numbers_of s.profile) streams (past_of s)) (sym same) is.of_streams in
    let whole = subst (λ (s : StateView). IsWhole (numbers_of s.profile) streams (past_of s) is.objects) (sym same) is.whole in
    let entries = entries_read (Backup input name) before after sink sink' status done in
    let run : HasRunAlone 8 8 done.author done.opened.files done.done.files input name done.store done.new done.opened.depot done.done.depot [] done.cache done.job.result = done.job.done in
    let idle : IdleView = record { author = done.author; seen = done.store } in
    let files_told : done.opened.files.held ≡ Some file.objects = ap (λ (files : ShelfView). files.held) done.files_same ∙ file.told in
    let of_input = subst (λ (view : StateView). IsOfInput streams (past_of done.store) (past_of view) (bytes_of file.objects input)) (sym run.after_is) file.of_input in
    let entries_seen = subst (λ (view : StateView). All IsEntry (past_of view)) (sym run.after_is) entries in
    let legal = subst IsLegal (sym run.after_is) done.legal in
    no_fault done.job.result done.opened.files.faults done.done.files.faults done.opened.depot.faults done.done.depot.faults run.input_count run.depot_count none_failed.files none_failed.depot
    (λ fault failed.
    no_damage 8 8 done.opened.files input name idle streams file.objects files_told done.opened.depot is.objects (done.opens.only_reads.held ∙ is.told) (rules_of 8 8 run.after.seen) was whole run.after done.done.depot done.cache fault
    (subst (λ (r : Result ℕ BackupFault). BackupAnswer alone 8 8 done.opened.files input name idle done.opened.depot [] run.after done.done.depot done.cache r) failed run.answer) of_input legal entries_seen)
