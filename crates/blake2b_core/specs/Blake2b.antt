-- Which message a `Blake2b` may have taken. It relates `new`, `update` and `finish`.
use Rattle.std.specs.Prelude.{◌≡◌, ℕ, ◌+◌, ◌*◌, [], length, take, drop}
use Rattle.blake2b_core.specs.{Bytes.ByteString, Digest.hash_after, declared.incremental.Blake2b.Blake2b}

-- the length of the digest that the state is made for
abbrev pub digest_len : Blake2b → ℕ
digest_len state = state.len

-- the number of bytes that the state has taken
abbrev pub taken_count : Blake2b → ℕ
taken_count state = state.taken

-- the first blocks of the message were compressed, as many as `done` says, and the bytes after them are buffered
pub record HoldsSoFar (state : Blake2b) (message : ByteString) : Type 0 where
  pub taken : state.taken ≡ length message
  pub done : ℕ
  pub count : 128 * done + state.buffer_len ≡ length message
  pub hash : state.h ≡ hash_after state.len message done
  pub rest : take state.buffer_len state.buffer ≡ drop (128 * done) message

-- the state may have taken the message: it holds the message so far, and buffers nothing only if the message is empty
pub record HasTaken (state : Blake2b) (message : ByteString) : Type 0 where
  pub so_far : HoldsSoFar state message
  pub empty_buffer : state.buffer_len ≡ 0 → message ≡ []
