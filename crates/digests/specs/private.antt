pub mod Finish
pub mod ToolRun
pub mod Messages
