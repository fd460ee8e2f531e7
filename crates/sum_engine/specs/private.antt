pub mod Generate
pub mod Judge
pub mod Verdicts
pub mod CheckOne
