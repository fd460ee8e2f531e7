-- Terms about bytes that several crates use. Nothing here names a digest, a line, a file or an option.
use Rattle.std.specs.{List.prefix_len, Prelude.ℕ, Prelude.Bool, Prelude.Option, Prelude.option_and_then, Prelude.drop}
pub use Rattle.blake2b_core.specs.{Bytes.ByteString, declared.incremental.TheConstants.LIMIT}

-- option >>= next: the result of `next` for the value in the option, if it has one
infixl 10 ◌>>=◌
abbrev pub ◌>>=◌ : {A B : Type 0} → Option A → (A → Option B) → Option B
option >>= next = option_and_then next option

-- what follows the longest prefix of bytes that pass a test
abbrev pub after_while : (ℕ → Bool) → ByteString → ByteString
after_while test bytes = drop (prefix_len test bytes) bytes
