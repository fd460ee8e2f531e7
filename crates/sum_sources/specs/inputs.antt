-- Inputs, and the digest of one.
pub mod Input
pub mod InputLog
pub mod HashInput
pub mod Told
pub mod Stdin
pub mod InputLaws
