pub mod Bytes
pub mod Algo
pub mod Kind
pub mod KindText
pub mod Digest
pub mod hashers
