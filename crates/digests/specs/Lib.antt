pub mod ToolRun
pub mod Program
pub mod Laws
pub mod private
