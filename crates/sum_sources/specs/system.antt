-- What calls the system.
pub mod FromRead
