pub mod CompressionLemmas
pub mod BlockLemmas
pub mod ColumnLemmas
