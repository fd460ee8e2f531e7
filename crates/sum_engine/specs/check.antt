-- Checking a manifest: its verdicts and reports, and a checker's steps.
pub mod Rules
pub mod Judge
pub mod Counts
pub mod Report
pub mod Summary
pub mod CheckOne
pub mod Verdicts
pub mod Checker
