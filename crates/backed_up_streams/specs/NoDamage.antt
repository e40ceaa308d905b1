-- Faults of a backup that tell of no damage (this project's own).
use Rattle.depot.specs.declared.fault.BackupFault.{BackupFault}
use Rattle.depot.specs.declared.fault.BackupFault.TheVariants.{Damaged, Unlike}

-- a fault, but not one that tells of damage
abbrev pub TellsNoDamage : BackupFault → Type 0
TellsNoDamage (Damaged want got) = ⊥
TellsNoDamage (Unlike text) = ⊥
TellsNoDamage _ = Unit {0}
