pub mod CommandLine
pub mod Items
pub mod Request
