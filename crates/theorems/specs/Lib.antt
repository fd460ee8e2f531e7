pub mod Writes
pub mod WritesTexts
pub mod StopsBeforeStep
pub mod CommandWrites
