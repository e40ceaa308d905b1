-- What a reclaim does (this project's own).
use Rattle.std.specs.Prelude.{◌≡◌, ℕ, ◌<◌, length, List, [], ◌∷◌, Option, None, Some, Ok, Err, Vec}
use Rattle.std.specs.declared.alloc.Global.{Global}
use Rattle.ss_base.specs.declared.object.Object.{Object}
use Rattle.ss_base.specs.ObjectName.{object_text}
use Rattle.outside.specs.Shelf.{EraseLeaves}
use Rattle.outside.specs.Views.{ShelfView}
use Rattle.outside.specs.declared.trouble.Trouble.{Trouble}
use Rattle.outside.specs.declared.trouble.Trouble.TheVariants as trouble
use Rattle.depot.specs.Calls.{after_erase, HasFailed}
use Rattle.store_core.specs.declared.fault.PointFault.{PointFault}
use Rattle.store_core.specs.declared.fault.PointFault.TheVariants as point
use Rattle.store_core.specs.View.{StateView}
use Rattle.store_core.specs.Answers.{ReclaimAnswer}
use Rattle.report.specs.declared.answer.JobAnswer.{JobAnswer}
use Rattle.report.specs.declared.answer.JobAnswer.TheVariants as job
use Rattle.report.specs.declared.answer.ReclaimFault.TheVariants.{DepotFault, Full, Memory}

-- the trouble that two calls met: want of memory before a fault
abbrev pub worse : Option Trouble → Option Trouble → Option Trouble
worse None second = second
worse (Some trouble.Memory) second = Some trouble.Memory
worse (Some trouble.Fault) None = Some trouble.Fault
worse (Some trouble.Fault) (Some second) = Some second

-- an object was erased, or the erase met trouble
abbrev pub IsErased : ShelfView → ShelfView → Object → Option Trouble → Type 0
IsErased before after object None = after ≡ after_erase before (object_text object)
IsErased before after object (Some met) = HasFailed (λ old new. EraseLeaves old new (object_text object)) before after met

-- an erase of each of these objects was made, in order, and they met this trouble
abbrev pub AreErased : ShelfView → ShelfView → List Object → Option Trouble → Type 0
AreErased before after [] met = (after ≡ before) × (met ≡ None)
AreErased before after (object ∷ objects) met =
    (next : ShelfView) × (first : Option Trouble) × (rest : Option Trouble) × IsErased before next object first × AreErased next after objects rest × (met ≡ worse first rest)

-- what a reclaim answers where it was refused, and where its objects were erased
abbrev pub of_point : PointFault → JobAnswer
of_point point.Full = job.Reclaim Full
of_point point.Memory = job.Reclaim Memory

abbrev pub of_erases : Option Trouble → JobAnswer
of_erases None = job.Ok
of_erases (Some trouble.Fault) = job.Reclaim DepotFault
of_erases (Some trouble.Memory) = job.Reclaim Memory

-- A reclaim: its objects were given over and each was tried once; or it was refused, and nothing was erased.
pub data ReclaimDone (author : ℕ) (old new : StateView) (depot depot' : ShelfView) (answer : JobAnswer) : Type 0 where
  reclaimed : (removals : Vec Object Global) (met : Option Trouble) → answer ≡ of_erases met → ReclaimAnswer old new author (Ok removals)
      → AreErased depot depot' removals.items met → ReclaimDone author old new depot depot' answer
  refused : (cause : PointFault) → answer ≡ of_point cause → ReclaimAnswer old new author (Err cause) → depot' ≡ depot
      → ReclaimDone author old new depot depot' answer

-- ---- the command

-- reclaims of 16 objects each, all of which were erased
pub data HasReclaimed (author : ℕ) (old : StateView) (depot : ShelfView) : StateView → ShelfView → Type 0 where
  none : HasReclaimed author old depot old depot
  more : (between new : StateView) (shelf depot' : ShelfView) (removals : Vec Object Global) → HasReclaimed author old depot between shelf
      → ReclaimAnswer between new author (Ok removals) → length removals.items ≡ 16 → AreErased shelf depot' removals.items None
      → HasReclaimed author old depot new depot'

-- the last one: of fewer than 16 objects, which were erased; or an erase met trouble; or it was refused
pub data LastReclaim (author : ℕ) (old new : StateView) (depot depot' : ShelfView) (answer : JobAnswer) : Type 0 where
  few : (removals : Vec Object Global) → answer ≡ job.Ok → ReclaimAnswer old new author (Ok removals) → length removals.items < 16
      → AreErased depot depot' removals.items None → LastReclaim author old new depot depot' answer
  troubled : (removals : Vec Object Global) (met : Trouble) → answer ≡ of_erases (Some met) → ReclaimAnswer old new author (Ok removals)
      → AreErased depot depot' removals.items (Some met) → LastReclaim author old new depot depot' answer
  unmade : (cause : PointFault) → answer ≡ of_point cause → ReclaimAnswer old new author (Err cause) → depot' ≡ depot
      → LastReclaim author old new depot depot' answer

-- the command: reclaims of 16 objects each, and then the last one
pub record ReclaimsDone (author : ℕ) (old new : StateView) (depot depot' : ShelfView) (answer : JobAnswer) : Type 0 where
  pub between : StateView
  pub shelf : ShelfView
  pub earlier : HasReclaimed author old depot between shelf
  pub last : LastReclaim author between new shelf depot' answer
