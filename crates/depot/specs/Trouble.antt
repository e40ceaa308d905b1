-- What a shelf's trouble makes of a call on the depot (this project's own).
use Rattle.outside.specs.declared.trouble.Trouble.{Trouble}
use Rattle.outside.specs.declared.trouble.Trouble.TheVariants.{Fault, Memory}
use Rattle.depot.specs.declared.fault.LoadFault.{LoadFault}
use Rattle.depot.specs.declared.fault.LoadFault.TheVariants as load
use Rattle.depot.specs.declared.fault.ReadFault.{ReadFault}
use Rattle.depot.specs.declared.fault.ReadFault.TheVariants as chunk

abbrev pub load_fault : Trouble → LoadFault
load_fault Fault = load.Shelf
load_fault Memory = load.Memory

abbrev pub read_fault : Trouble → ReadFault
read_fault Fault = chunk.Shelf
read_fault Memory = chunk.Memory
