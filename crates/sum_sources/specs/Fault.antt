-- The faults of opening and reading, and their texts.
use Rattle.std.specs.Prelude.{ℤ, pos, List, [], ◌∷◌, map, codes, length, slice_index_or, ◌==◌, if◌then◌else◌}
use Rattle.digest_kinds.specs.Bytes.{ByteString}
pub use Rattle.sum_sources.specs.declared.fault.{Ending.Ending, Ending.TheVariants.Whole, Ending.TheVariants.Broken}
pub use Rattle.sum_sources.specs.declared.fault.{Fault.Fault, Fault.TheVariants.NotFound, Fault.TheVariants.Denied}
pub use Rattle.sum_sources.specs.declared.fault.{Fault.TheVariants.Other, Fault.TheVariants.Os}

-- the C library's texts of the numbers of Linux, from 0 on. The number at a line's end is that of its first text. A
-- text is empty if there is none, for 0, which is no fault, and for 2, 5 and 13, which are NotFound, Other and Denied
unfoldable pub reason_table : List ByteString
reason_table = map codes ("" ∷ "Operation not permitted" ∷ "" ∷ "No such process" ∷ "Interrupted system call" ∷  -- 0
    "" ∷ "No such device or address" ∷ "Argument list too long" ∷ "Exec format error" ∷ "Bad file descriptor" ∷  -- 5
    "No child processes" ∷ "Resource temporarily unavailable" ∷ "Cannot allocate memory" ∷ "" ∷ "Bad address" ∷  -- 10
    "Block device required" ∷ "Device or resource busy" ∷ "File exists" ∷ "Invalid cross-device link" ∷  -- 15
    "No such device" ∷ "Not a directory" ∷ "Is a directory" ∷ "Invalid argument" ∷  -- 19
    "Too many open files in system" ∷ "Too many open files" ∷ "Inappropriate ioctl for device" ∷  -- 23
    "Text file busy" ∷ "File too large" ∷ "No space left on device" ∷ "Illegal seek" ∷ "Read-only file system" ∷  -- 26
    "Too many links" ∷ "Broken pipe" ∷ "Numerical argument out of domain" ∷ "Numerical result out of range" ∷  -- 31
    "Resource deadlock avoided" ∷ "File name too long" ∷ "No locks available" ∷ "Function not implemented" ∷  -- 35
    "Directory not empty" ∷ "Too many levels of symbolic links" ∷ "" ∷ "No message of desired type" ∷  -- 39
    "Identifier removed" ∷ "Channel number out of range" ∷ "Level 2 not synchronized" ∷ "Level 3 halted" ∷  -- 43
    "Level 3 reset" ∷ "Link number out of range" ∷ "Protocol driver not attached" ∷  -- 47
    "No CSI structure available" ∷ "Level 2 halted" ∷ "Invalid exchange" ∷ "Invalid request descriptor" ∷  -- 50
    "Exchange full" ∷ "No anode" ∷ "Invalid request code" ∷ "Invalid slot" ∷ "" ∷ "Bad font file format" ∷  -- 54
    "Device not a stream" ∷ "No data available" ∷ "Timer expired" ∷ "Out of streams resources" ∷  -- 60
    "Machine is not on the network" ∷ "Package not installed" ∷ "Object is remote" ∷ "Link has been severed" ∷  -- 64
    "Advertise error" ∷ "Srmount error" ∷ "Communication error on send" ∷ "Protocol error" ∷  -- 68
    "Multihop attempted" ∷ "RFS specific error" ∷ "Bad message" ∷ "Value too large for defined data type" ∷  -- 72
    "Name not unique on network" ∷ "File descriptor in bad state" ∷ "Remote address changed" ∷  -- 76
    "Can not access a needed shared library" ∷ "Accessing a corrupted shared library" ∷  -- 79
    ".lib section in a.out corrupted" ∷ "Attempting to link in too many shared libraries" ∷  -- 81
    "Cannot exec a shared library directly" ∷ "Invalid or incomplete multibyte or wide character" ∷  -- 83
    "Interrupted system call should be restarted" ∷ "Streams pipe error" ∷ "Too many users" ∷  -- 85
    "Socket operation on non-socket" ∷ "Destination address required" ∷ "Message too long" ∷  -- 88
    "Protocol wrong type for socket" ∷ "Protocol not available" ∷ "Protocol not supported" ∷  -- 91
    "Socket type not supported" ∷ "Operation not supported" ∷ "Protocol family not supported" ∷  -- 94
    "Address family not supported by protocol" ∷ "Address already in use" ∷ "Cannot assign requested address" ∷  -- 97
    "Network is down" ∷ "Network is unreachable" ∷ "Network dropped connection on reset" ∷  -- 100
    "Software caused connection abort" ∷ "Connection reset by peer" ∷ "No buffer space available" ∷  -- 103
    "Transport endpoint is already connected" ∷ "Transport endpoint is not connected" ∷  -- 106
    "Cannot send after transport endpoint shutdown" ∷ "Too many references: cannot splice" ∷  -- 108
    "Connection timed out" ∷ "Connection refused" ∷ "Host is down" ∷ "No route to host" ∷  -- 110
    "Operation already in progress" ∷ "Operation now in progress" ∷ "Stale file handle" ∷  -- 114
    "Structure needs cleaning" ∷ "Not a XENIX named type file" ∷ "No XENIX semaphores available" ∷  -- 117
    "Is a named type file" ∷ "Remote I/O error" ∷ "Disk quota exceeded" ∷ "No medium found" ∷  -- 120
    "Wrong medium type" ∷ "Operation canceled" ∷ "Required key not available" ∷ "Key has expired" ∷  -- 124
    "Key has been revoked" ∷ "Key was rejected by service" ∷ "Owner died" ∷ "State not recoverable" ∷  -- 128
    "Operation not possible due to RF-kill" ∷ "Memory page has hardware error" ∷ [])  -- 132

-- the system's text of a fault by its number (errno), or nothing
abbrev pub reason : ℤ → ByteString
reason (pos n) = slice_index_or reason_table n []
reason n = []

-- the text of a fault
abbrev pub fault_text : Fault → ByteString
fault_text NotFound = codes "No such file or directory"
fault_text Denied = codes "Permission denied"
fault_text Other = codes "Input/output error"
fault_text (Os n) = if length (reason n) == 0 then codes "Input/output error" else reason n
