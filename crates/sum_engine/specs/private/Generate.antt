-- The fault for which a name's line is written.
use Rattle.std.specs.Prelude.{Result, Ok, Err}
use Rattle.sum_settings.specs.declared.stop.NoRoom.{NoRoom}
use Rattle.sum_sources.specs.declared.{fault.Fault.Fault, sources.hash_file.HashFault.HashFault}
use Rattle.sum_sources.specs.declared.sources.hash_file.HashFault.TheVariants as hashing
use Rattle.sum_sources.specs.declared.sources.source.OpenFault.TheVariants as faults

-- the fault of opening or reading, unless memory was refused
abbrev pub fault_in : HashFault → Result Fault NoRoom
fault_in (hashing.Open (faults.Fault fault)) = Ok fault
fault_in (hashing.Read fault) = Ok fault
fault_in (hashing.Open faults.Memory) = Err (record {})
