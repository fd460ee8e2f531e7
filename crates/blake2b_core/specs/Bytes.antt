-- Bytes, for the definitions of all crates.
use Rattle.std.specs.Prelude.{ℕ, List}

-- a list of bytes
abbrev pub ByteString : Type 0
ByteString = List ℕ
