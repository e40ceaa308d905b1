-- What a run erased of its depot (this project's own).
use Rattle.std.specs.Prelude.{◌≡◌, ℕ, ◌+◌, ◌-◌, ◌^◌, ◌≤◌, ◌⊎◌, List, [], ◌∷◌, ◌++◌, map, flat_map, option_map}
use Rattle.ss_base.specs.declared.object.Object.{Object}
use Rattle.ss_base.specs.ObjectName.{object_text}
use Rattle.outside.specs.Views.{ShelfView}
use Rattle.journal_entry.specs.declared.entry.Entry.{Entry}
use Rattle.journal_entry.specs.declared.entry.Point.{Point}
use Rattle.journal_entry.specs.declared.entry.Point.TheVariants as point
use Rattle.job_script.specs.declared.job.JobKind.{JobKind}
use Rattle.job_script.specs.declared.job.JobKind.TheVariants.{Backup, Restore, Delete, Reclaim, Stat}
use Rattle.report.specs.declared.answer.JobAnswer.{JobAnswer}
use Rattle.report.specs.declared.answer.JobAnswer.TheVariants as job
use Rattle.report.specs.declared.answer.ReclaimFault.TheVariants.{Memory}

-- the objects that the Reclaims among some entries name, in order
abbrev pub objects_in : Point → List Object
objects_in (point.Reclaim objects) = objects
objects_in _ = []

abbrev pub reclaimed : List Entry → List Object
reclaimed entries = flat_map (λ (entry : Entry). objects_in entry.point) entries

-- all of these names in order, but for so many
abbrev pub AreAllBut : ℕ → List (List ℕ) → List (List ℕ) → Type 0
AreAllBut missing names [] = (names ≡ []) × (missing ≡ 0)
AreAllBut missing names (one ∷ all) =
    ((rest : List (List ℕ)) × (names ≡ one ∷ rest) × AreAllBut missing rest all)
    ⊎ ((fewer : ℕ) × (missing ≡ fewer + 1) × AreAllBut fewer names all)

-- a count rose by so many or more, or stands at its last value
abbrev pub RoseBy : ℕ → ℕ → ℕ → Type 0
RoseBy least before after = (before + least ≤ after) ⊎ (2 ^ 64 - 1 ≤ after)

-- What was erased are the objects that the Reclaims among these entries name, in order, each at most once. Unless memory
-- was wanted, no more are missing than the count of faults rose by.
pub record HasErased (entries : List Entry) (answer : JobAnswer) (before after : ShelfView) : Type 0 where
  pub names : List (List ℕ)
  pub erased : after.erased ≡ option_map (λ told. told ++ names) before.erased
  pub missing : ℕ
  pub names_are : AreAllBut missing names (map object_text (reclaimed entries))
  pub counted : (answer ≡ job.Reclaim Memory) ⊎ RoseBy missing before.faults after.faults

-- a job that does no more to the objects of the depot than read them
abbrev pub OnlyReadsDepot : JobKind → Type 0
OnlyReadsDepot (Backup input name) = ⊥
OnlyReadsDepot (Restore name output) = Unit {0}
OnlyReadsDepot (Delete name) = Unit {0}
OnlyReadsDepot Reclaim = ⊥
OnlyReadsDepot Stat = Unit {0}
