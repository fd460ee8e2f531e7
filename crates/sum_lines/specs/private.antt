pub mod Beginnings
pub mod Buffered
