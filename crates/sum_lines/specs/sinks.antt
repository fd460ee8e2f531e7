-- Sinks and the outputs over them.
pub mod Texts
pub mod Output
pub mod GivesAll
pub mod Sink
pub mod ToldSink
pub mod Buffered
