-- What calls the system.
pub mod FromWrite
