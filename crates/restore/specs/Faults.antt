-- What the answers of other crates are as answers of a restore (this project's own).
use Rattle.outside.specs.declared.trouble.Trouble.{Trouble}
use Rattle.outside.specs.declared.trouble.Trouble.TheVariants as shelf
use Rattle.store_core.specs.declared.fault.NameFault.{NameFault}
use Rattle.store_core.specs.declared.fault.NameFault.TheVariants as name
use Rattle.depot.specs.declared.fault.LoadFault.{LoadFault}
use Rattle.depot.specs.declared.fault.LoadFault.TheVariants as load
use Rattle.depot.specs.declared.fault.ReadFault.{ReadFault}
use Rattle.depot.specs.declared.fault.ReadFault.TheVariants as chunk
use Rattle.depot.specs.declared.fault.RestoreFault.{RestoreFault}
use Rattle.depot.specs.declared.fault.RestoreFault.TheVariants.{NoStream, OutputFault, DepotFault, Damaged, Unlike, Full, Memory}

-- of a call on the shelf of the output
abbrev pub output_fault : Trouble → RestoreFault
output_fault shelf.Fault = OutputFault
output_fault shelf.Memory = Memory

-- of the look
abbrev pub look_fault : NameFault → RestoreFault
look_fault name.NoStream = NoStream
look_fault name.Full = Full
look_fault name.Memory = Memory

-- of a load of a manifest
abbrev pub load_fault : LoadFault → RestoreFault
load_fault load.Shelf = DepotFault
load_fault (load.Damaged want got) = Damaged want got
load_fault (load.Unlike text) = Unlike text
load_fault load.Memory = Memory

-- of a read of a chunk
abbrev pub chunk_fault : ReadFault → RestoreFault
chunk_fault chunk.Shelf = DepotFault
chunk_fault (chunk.Damaged want got) = Damaged want got
chunk_fault chunk.Memory = Memory
