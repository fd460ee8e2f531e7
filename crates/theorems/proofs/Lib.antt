pub mod TextLemmas
pub mod MemoryLemmas
pub mod WriteLemmas
pub mod OldListLemmas
pub mod StdinLemmas
pub mod StepLemmas
pub mod CallLemmas
pub mod ToolLemmas
