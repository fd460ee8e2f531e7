pub mod Escape
pub mod sinks
pub mod system
pub mod writing
pub mod grammar
pub mod private
