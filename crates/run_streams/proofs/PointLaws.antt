-- A job that is no backup stores nothing.
use Rattle.std.proofs.Common.{◌≡◌, ◌⊎◌, ℕ, List, [], ◌∷◌, ◌++◌, reverse, map, Some, None, sym, subst, inl, inr}
use Rattle.std.specs.Prelude.{Result, Ok, Err}
use Rattle.std.specs.List.{All, AllByRecursion}
use Rattle.ss_base.proofs.MemberLaws.{In, reverse_in, All-from_in}
use Rattle.journal_entry.specs.declared.entry.Entry.{Entry}
use Rattle.journal_entry.specs.declared.entry.Point.{Point}
use Rattle.journal_entry.specs.declared.entry.Point.TheVariants as point
use Rattle.store_core.specs.View.{made}
use Rattle.store_core.specs.declared.fault.NameFault.TheVariants as name
use Rattle.depot.specs.declared.fault.RestoreFault.{RestoreFault}
use Rattle.depot.specs.declared.fault.RestoreFault.TheVariants.{Exists, NoStream, OutputFault, DepotFault, Damaged, Unlike, Full, Memory}
use Rattle.stored_streams.specs.OfStreams.{StoresNothing}
use Rattle.report.specs.declared.answer.JobAnswer.{JobAnswer}
use Rattle.report.specs.declared.answer.JobAnswer.TheVariants as job
use Rattle.report.specs.declared.answer.ReclaimFault.TheVariants as reclaim
use Rattle.job_entries.specs.RestorePoints.{RestorePoints, IsRead}
use Rattle.store_run.specs.JobCalls.{DeleteCalls, StatCalls, FullReclaims, EndsReclaims, ReclaimCalls}

abbrev pub StoreNothing : List Point → Type 0
StoreNothing points = AllByRecursion StoresNothing points

none : (points : List Point) → points ≡ [] → StoreNothing points
none points is = subst StoreNothing (sym is) tt

one : (point : Point) (points : List Point) → StoresNothing point → points ≡ point ∷ [] → StoreNothing points
one point points nothing is = subst StoreNothing (sym is) (nothing, tt)

read : (asked : List ℕ) (points : List Point) → IsRead asked points → StoreNothing points
read asked points is = subst StoreNothing (sym is.points_are) (tt, (tt, tt))

perhaps_read : (asked : List ℕ) (points : List Point) → (points ≡ []) ⊎ IsRead asked points → StoreNothing points
perhaps_read asked points (inl is) = none points is
perhaps_read asked points (inr is) = read asked points is

pub restore_stores_nothing : (asked : List ℕ) (result : Result ℕ RestoreFault) (points : List Point) → RestorePoints asked result points → StoreNothing points
restore_stores_nothing asked (Ok count) points is = read asked points is
restore_stores_nothing asked (Err Exists) points is = none points is
restore_stores_nothing asked (Err NoStream) points is = one (point.Look asked None) points tt is
restore_stores_nothing asked (Err Full) points is = none points is
restore_stores_nothing asked (Err OutputFault) points is = perhaps_read asked points is
restore_stores_nothing asked (Err Memory) points is = perhaps_read asked points is
restore_stores_nothing asked (Err DepotFault) points is = read asked points is
restore_stores_nothing asked (Err (Damaged want got)) points is = read asked points is
restore_stores_nothing asked (Err (Unlike text)) points is = read asked points is

pub delete_stores_nothing : (asked : List ℕ) (answer : JobAnswer) (points : List Point) → DeleteCalls asked answer points → StoreNothing points
delete_stores_nothing asked job.Ok points is = one (point.Delete asked (Some is.0)) points tt is.1
delete_stores_nothing asked (job.Delete name.NoStream) points is = one (point.Delete asked None) points tt is
delete_stores_nothing asked (job.Delete name.Full) points is = none points is
delete_stores_nothing asked (job.Delete name.Memory) points is = none points is
delete_stores_nothing asked (job.Backup fault) points is = absurd is
delete_stores_nothing asked (job.Restore fault) points is = absurd is
delete_stores_nothing asked (job.Reclaim fault) points is = absurd is
delete_stores_nothing asked (job.Stat fault) points is = absurd is

pub stat_stores_nothing : (answer : JobAnswer) (points : List Point) → StatCalls answer points → StoreNothing points
stat_stores_nothing job.Ok points is = one (point.Stat is.0) points tt is.1
stat_stores_nothing (job.Stat fault) points is = none points is
stat_stores_nothing (job.Backup fault) points is = absurd is
stat_stores_nothing (job.Restore fault) points is = absurd is
stat_stores_nothing (job.Reclaim fault) points is = absurd is
stat_stores_nothing (job.Delete fault) points is = absurd is

full : (points : List Point) → FullReclaims points → StoreNothing points
full [] is = tt
full (point.Reclaim objects ∷ points) is = (tt, full points is.1)
full (_ ∷ points) is = absurd is

more : (earlier points : List Point) → StoreNothing earlier → StoreNothing points → StoreNothing (earlier ++ points)
more [] points nothing too = too
more (one ∷ earlier) points nothing too = (nothing.0, more earlier points nothing.1 too)

ends : (most : ℕ) (points : List Point) → EndsReclaims most points → StoreNothing points
ends most points is = subst StoreNothing (sym is.points_are) (more is.earlier (point.Reclaim is.objects ∷ []) (full is.earlier is.full) (tt, tt))

perhaps_ends : (most : ℕ) (points : List Point) → FullReclaims points ⊎ EndsReclaims most points → StoreNothing points
perhaps_ends most points (inl is) = full points is
perhaps_ends most points (inr is) = ends most points is

pub reclaim_stores_nothing : (answer : JobAnswer) (points : List Point) → ReclaimCalls answer points → StoreNothing points
reclaim_stores_nothing job.Ok points is = ends 15 points is
reclaim_stores_nothing (job.Reclaim reclaim.DepotFault) points is = ends 16 points is
reclaim_stores_nothing (job.Reclaim reclaim.Full) points is = full points is
reclaim_stores_nothing (job.Reclaim reclaim.Memory) points is = perhaps_ends 16 points is
reclaim_stores_nothing (job.Backup fault) points is = absurd is
reclaim_stores_nothing (job.Restore fault) points is = absurd is
reclaim_stores_nothing (job.Delete fault) points is = absurd is
reclaim_stores_nothing (job.Stat fault) points is = absurd is

-- ---- their entries

abbrev Nothing : Entry → Type 0
Nothing entry = StoresNothing entry.point

entry_in : (author : ℕ) (points : List Point) → StoreNothing points → (entry : Entry) → In entry (map (made author) points) → Nothing entry
entry_in author [] nothing entry listed = absurd listed
entry_in author (point ∷ points) nothing entry listed = elim listed [
  | inl is ↦ subst Nothing is nothing.0
  | inr later ↦ entry_in author points nothing.1 entry later
]

pub entries_store_nothing : (author : ℕ) (points : List Point) → StoreNothing points → All (λ (entry : Entry). StoresNothing entry.point) (reverse (map (made author) points))
entries_store_nothing author points nothing =
    All-from_in Nothing (reverse (map (made author) points)) (λ entry listed. entry_in author points nothing entry (reverse_in entry (map (made author) points) listed))
