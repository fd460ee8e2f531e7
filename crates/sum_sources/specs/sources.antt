-- Sources of files, and the digest of a file.
pub mod Source
pub mod SourceLog
pub mod HashFile
pub mod StoredAnswer
pub mod ToldSource
pub mod StdinOrFile
pub mod Opened
pub mod WithStdin
pub mod WithStdinView
pub mod SourceLaws
