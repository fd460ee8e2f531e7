-- Lines as they are written.
pub mod Parts
pub mod PutLine
