-- What becomes of counts of faults in a run.
use Rattle.std.proofs.Common.{◌≡◌, ◌⊎◌, ℕ, List, [], ◌∷◌, Option, Some, None, refl, sym, ap, ◌∙◌, subst, inl, inr, arith}
use Rattle.std.specs.Prelude.{Result, Ok, Err}
use Rattle.ss_base.specs.declared.object.Object.{Object}
use Rattle.outside.specs.Faults.{Rose}
use Rattle.outside.specs.Views.{ShelfView, SinkView}
use Rattle.outside.specs.declared.trouble.Trouble.{Trouble}
use Rattle.outside.specs.declared.trouble.Trouble.TheVariants as trouble
use Rattle.store_core.specs.View.{StateView}
use Rattle.depot.specs.declared.fault.BackupFault.{BackupFault}
use Rattle.depot.specs.declared.fault.BackupFault.TheVariants as backup
use Rattle.depot.specs.declared.fault.RestoreFault.{RestoreFault}
use Rattle.depot.specs.declared.fault.RestoreFault.TheVariants as restore
use Rattle.session.specs.Causes.{DepotAnswer}
use Rattle.restore.specs.Copies.{Shelves}
use Rattle.restore.specs.Restores.{RestoreCause, RestoreCounts}
use Rattle.report.specs.declared.answer.JobAnswer.{JobAnswer}
use Rattle.job_script.specs.declared.job.JobKind.{JobKind}
use Rattle.job_script.specs.declared.job.JobKind.TheVariants.{Backup, Restore, Delete, Reclaim, Stat}
use Rattle.job_run.specs.Erasing.{worse, IsErased, AreErased, HasReclaimed, LastReclaim, ReclaimsDone}
use Rattle.job_run.specs.Erasing.HasReclaimed.{none, more}
use Rattle.job_run.specs.Erasing.LastReclaim.{few, troubled, unmade}
use Rattle.store_run.specs.JobRun.{HasDoneJob}

-- ---- a count that is as it was, or rose

abbrev pub Moved : ℕ → ℕ → Type 0
Moved before after = (after ≡ before) ⊎ Rose before after

rose_both : (a b c : ℕ) → Rose a b → Rose b c → Rose a c
rose_both a b c (inl one) (inl other) = inl (omega (arith, one, other))
rose_both a b c (inl one) (inr last) = inr last
rose_both a b c (inr last) (inl other) = inr (omega (arith, last, other))
rose_both a b c (inr last) (inr last_too) = inr last_too

pub rose_then : (a b c : ℕ) → Rose a b → Moved b c → Rose a c
rose_then a b c rose (inl same) = subst (Rose a) (sym same) rose
rose_then a b c rose (inr rose_too) = rose_both a b c rose rose_too

pub then_rose : (a b c : ℕ) → Moved a b → Rose b c → Rose a c
then_rose a b c (inl same) rose = subst (λ n. Rose n c) same rose
then_rose a b c (inr rose) rose_too = rose_both a b c rose rose_too

both_moved : (a b c : ℕ) → Moved a b → Moved b c → Moved a c
both_moved a b c one (inl same) = subst (Moved a) (sym same) one
both_moved a b c one (inr rose) = inr (then_rose a b c one rose)

-- ---- erases

erased_moves : (before after : ShelfView) (object : Object) (met : Option Trouble) → IsErased before after object met → Moved before.faults after.faults
erased_moves before after object None is = inl (ap (λ (s : ShelfView). s.faults) is)
erased_moves before after object (Some trouble.Fault) is = inr is.count.1
erased_moves before after object (Some trouble.Memory) is = inl is.count

all_move : (before after : ShelfView) (objects : List Object) (met : Option Trouble) → AreErased before after objects met → Moved before.faults after.faults
all_move before after [] met is = inl (ap (λ (s : ShelfView). s.faults) is.0)
all_move before after (object ∷ objects) met (next, first, rest, first_is, rest_are, met_is) =
    both_moved before.faults next.faults after.faults (erased_moves before next object first first_is) (all_move next after objects rest rest_are)

fault_in : (first rest : Option Trouble) → worse first rest ≡ Some trouble.Fault → (first ≡ Some trouble.Fault) ⊎ (rest ≡ Some trouble.Fault)
fault_in None rest is = inr is
fault_in (Some trouble.Memory) rest is = absurd (let same : Some trouble.Memory ≡ Some trouble.Fault = is in cc)
fault_in (Some trouble.Fault) rest is = inl refl

faulty_rose : (before after : ShelfView) (objects : List Object) (met : Option Trouble) → AreErased before after objects met → met ≡ Some trouble.Fault → Rose before.faults after.faults
faulty_rose before after [] met is fault = absurd (let nothing = is.1 in cc)
faulty_rose before after (object ∷ objects) met (next, first, rest, first_is, rest_are, met_is) fault = elim (fault_in first rest (sym met_is ∙ fault)) [
  | inl here ↦ rose_then before.faults next.faults after.faults (subst (IsErased before next object) here first_is).count.1 (all_move next after objects rest rest_are)
  | inr later ↦ then_rose before.faults next.faults after.faults (erased_moves before next object first first_is) (faulty_rose next after objects rest rest_are later)
]

pub reclaims_move : (author : ℕ) (old : StateView) (depot : ShelfView) (new : StateView) (depot' : ShelfView) → HasReclaimed author old depot new depot' → Moved depot.faults depot'.faults
reclaims_move author old depot new depot' none = inl refl
reclaims_move author old depot new depot' (more between after_it shelf shelf' removals earlier answer full erased) =
    both_moved depot.faults shelf.faults shelf'.faults (reclaims_move author old depot between shelf earlier) (all_move shelf shelf' removals.items None erased)

last_moves : (author : ℕ) (old new : StateView) (depot depot' : ShelfView) (answer : JobAnswer) → LastReclaim author old new depot depot' answer → Moved depot.faults depot'.faults
last_moves author old new depot depot' answer (few removals answer_is reclaimed fewer erased) = all_move depot depot' removals.items None erased
last_moves author old new depot depot' answer (troubled removals met answer_is reclaimed erased) = all_move depot depot' removals.items (Some met) erased
last_moves author old new depot depot' answer (unmade cause answer_is refused same) = inl (ap (λ (s : ShelfView). s.faults) same)

-- erases of a reclaim of which one failed
pub failed_rose : (depot shelf depot' : ShelfView) (objects : List Object) → Moved depot.faults shelf.faults → AreErased shelf depot' objects (Some trouble.Fault) → Rose depot.faults depot'.faults
failed_rose depot shelf depot' objects moved erased = then_rose depot.faults shelf.faults depot'.faults moved (faulty_rose shelf depot' objects (Some trouble.Fault) erased refl)

-- ---- a job

backup_moves : (result : Result ℕ BackupFault) (before after : ℕ) → DepotAnswer result before after → Moved before after
backup_moves (Ok session) before after is = inl is
backup_moves (Err backup.DepotFault) before after is = inr is
backup_moves (Err backup.Taken) before after is = inl is
backup_moves (Err backup.NoInput) before after is = inl is
backup_moves (Err backup.InputFault) before after is = inl is
backup_moves (Err backup.TooLong) before after is = inl is
backup_moves (Err (backup.Damaged want got)) before after is = inl is
backup_moves (Err (backup.Unlike text)) before after is = inl is
backup_moves (Err backup.Full) before after is = inl is
backup_moves (Err backup.Memory) before after is = inl is

restore_moves : (output : List ℕ) (result : Result ℕ RestoreFault) (before after : Shelves) → RestoreCause output before after result → RestoreCounts before after result → Moved before.depot.faults after.depot.faults
restore_moves output (Ok count) before after cause is = inl is.1
restore_moves output (Err restore.DepotFault) before after cause is = inr cause.1
restore_moves output (Err restore.OutputFault) before after cause is = inl is.1
restore_moves output (Err restore.Exists) before after cause is = inl is.1
restore_moves output (Err restore.NoStream) before after cause is = inl is.1
restore_moves output (Err (restore.Damaged want got)) before after cause is = inl is.1
restore_moves output (Err (restore.Unlike text)) before after cause is = inl is.1
restore_moves output (Err restore.Full) before after cause is = inl is.1
restore_moves output (Err restore.Memory) before after cause is = inl is.1

pub job_moves : (kind : JobKind) (before after : Shelves) (sink sink' : SinkView) (status : ℕ) (done : HasDoneJob kind before after sink sink' status) → Moved done.opened.depot.faults done.done.depot.faults
job_moves (Backup input name) before after sink sink' status done = backup_moves done.job.result done.opened.depot.faults done.done.depot.faults done.job.done.depot_count
job_moves (Restore name output) before after sink sink' status done = restore_moves output done.job.result done.opened done.done done.job.cause done.job.counts
job_moves (Delete name) before after sink sink' status done = inl (ap (λ (s : Shelves). s.depot.faults) done.job.1)
job_moves Stat before after sink sink' status done = inl (ap (λ (s : Shelves). s.depot.faults) done.job.1)
job_moves Reclaim before after sink sink' status done =
    let is : ReclaimsDone done.author done.store done.new done.opened.depot done.done.depot done.answer = done.job.0 in
    both_moved done.opened.depot.faults is.shelf.faults done.done.depot.faults (reclaims_move done.author done.store done.opened.depot is.between is.shelf is.earlier) (last_moves done.author is.between done.new is.shelf done.done.depot done.answer is.last)
