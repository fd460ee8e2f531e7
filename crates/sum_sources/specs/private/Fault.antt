-- The fault of an error of the system.
use Rattle.std.specs.Prelude.{ℤ, pos, Option, None, Some, length, ◌==◌, if◌then◌else◌}
use Rattle.std.specs.{Ordering.int_eq, declared.io.ErrorKind.ErrorKind}
use Rattle.sum_sources.specs.Fault.{Fault, NotFound, Denied, Other, Os, reason}
use Rattle.std.specs.declared.io.ErrorKind.TheVariants as kinds

-- the fault of a number of the system: 2 is ENOENT, 13 is EACCES
abbrev pub fault_of_number : ℤ → Fault
fault_of_number n = if int_eq n (pos 2) then NotFound else if int_eq n (pos 13) then Denied
    else if length (reason n) == 0 then Other else Os n

-- the fault of an error that has no number
abbrev pub fault_of_kind : ErrorKind → Fault
fault_of_kind kinds.NotFound = NotFound
fault_of_kind kinds.PermissionDenied = Denied
fault_of_kind kind = Other

-- the fault of an error: its number decides, or its kind if it has none
abbrev pub fault_of_error : ErrorKind → Option ℤ → Fault
fault_of_error kind (Some n) = fault_of_number n
fault_of_error kind None = fault_of_kind kind
