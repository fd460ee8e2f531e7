pub mod Options
pub mod WordFault
pub mod Items
pub mod Request
