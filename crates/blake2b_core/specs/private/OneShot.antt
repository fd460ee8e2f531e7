-- Relates the blocks that the code takes from a message to the message.
use Rattle.std.specs.Prelude.{◌≡◌, ℕ, ◌+◌, ◌*◌, List, [], take, drop, slice_index_or, EachIndex}
use Rattle.blake2b_core.specs.Bytes.{ByteString}

-- the blocks are consecutive blocks of the message, from block k on
abbrev pub HasBlocksFrom : ByteString → ℕ → List ByteString → Type 0
HasBlocksFrom message k blocks = EachIndex blocks
    (λ i. slice_index_or blocks i [] ≡ take 128 (drop (128 * (k + i)) message))
