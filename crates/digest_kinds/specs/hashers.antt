-- The hasher of any kind.
pub mod AnyHasher
