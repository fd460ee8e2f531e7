pub mod Fault
pub mod SizeLimit
pub mod Told
pub mod LineReader
