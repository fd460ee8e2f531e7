pub mod Bytes
pub mod Compression
pub mod Digest
pub mod Laws
pub mod Blake2b
pub mod private
