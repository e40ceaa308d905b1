-- What stops a backup, by what a call answered (this project's own).
use Rattle.std.specs.Prelude.{◌≡◌, ℕ, Result, Ok, Err}
use Rattle.outside.specs.Faults.{Rose}
use Rattle.outside.specs.declared.trouble.Trouble.{Trouble}
use Rattle.outside.specs.declared.trouble.Trouble.TheVariants as trouble
use Rattle.store_core.specs.declared.fault.BeginFault.{BeginFault}
use Rattle.store_core.specs.declared.fault.BeginFault.TheVariants as begin
use Rattle.store_core.specs.declared.fault.PointFault.{PointFault}
use Rattle.store_core.specs.declared.fault.PointFault.TheVariants as point
use Rattle.segment_reader.specs.declared.fault.NextFault.{NextFault}
use Rattle.segment_reader.specs.declared.fault.NextFault.TheVariants as next
use Rattle.depot.specs.declared.fault.LoadFault.{LoadFault}
use Rattle.depot.specs.declared.fault.LoadFault.TheVariants as load
use Rattle.depot.specs.declared.fault.BackupFault.{BackupFault}
use Rattle.depot.specs.declared.fault.BackupFault.TheVariants.{Taken, InputFault, TooLong, DepotFault, Damaged, Unlike, Full, Memory}

-- trouble with the input's shelf, and with the depot's
abbrev pub of_input : Trouble → BackupFault
of_input trouble.Fault = InputFault
of_input trouble.Memory = Memory

abbrev pub of_depot : Trouble → BackupFault
of_depot trouble.Fault = DepotFault
of_depot trouble.Memory = Memory

-- a Begin, and a later entry
abbrev pub of_begin : BeginFault → BackupFault
of_begin begin.Taken = Taken
of_begin begin.Full = Full
of_begin begin.Memory = Memory

abbrev pub of_point : PointFault → BackupFault
of_point point.Full = Full
of_point point.Memory = Memory

-- the stream, and a champion's manifest
abbrev pub of_next : NextFault → BackupFault
of_next next.Fault = InputFault
of_next next.TooLong = TooLong
of_next next.Memory = Memory

abbrev pub of_load : LoadFault → BackupFault
of_load load.Shelf = DepotFault
of_load (load.Damaged want got) = Damaged want got
of_load (load.Unlike text) = Unlike text
of_load load.Memory = Memory

-- the depot's count of faults, by what stops a backup: it rose where it is the cause, and is as before elsewhere
abbrev pub DepotCount : BackupFault → ℕ → ℕ → Type 0
DepotCount DepotFault before after = Rose before after
DepotCount _ before after = after ≡ before

-- the input's
abbrev pub InputCount : BackupFault → ℕ → ℕ → Type 0
InputCount InputFault before after = Rose before after
InputCount _ before after = after ≡ before

-- the same of an answer: where there is no cause, a count is as before
abbrev pub DepotAnswer : {T : Type 0} → Result T BackupFault → ℕ → ℕ → Type 0
DepotAnswer (Ok done) before after = after ≡ before
DepotAnswer (Err fault) before after = DepotCount fault before after

abbrev pub InputAnswer : {T : Type 0} → Result T BackupFault → ℕ → ℕ → Type 0
InputAnswer (Ok done) before after = after ≡ before
InputAnswer (Err fault) before after = InputCount fault before after
