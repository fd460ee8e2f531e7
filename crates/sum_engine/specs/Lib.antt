pub mod Behavior
pub mod Streams
pub mod Execution
pub mod ToolLines
pub mod Generate
pub mod check
pub mod private
pub mod Laws
