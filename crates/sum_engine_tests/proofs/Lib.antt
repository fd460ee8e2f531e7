pub mod DashLemmas
pub mod EndLemmas
pub mod CountingLemmas
