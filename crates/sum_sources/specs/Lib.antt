pub mod Fault
pub mod Content
pub mod Names
pub mod inputs
pub mod LineReader
pub mod sources
pub mod system
pub mod private
