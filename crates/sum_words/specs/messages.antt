pub mod FaultLines
pub mod Help
