-- The BLAKE2b digest of a message, without a key (RFC 7693, 3.3).
use Rattle.std.specs.List.{range_with_len}
use Rattle.std.specs.Prelude.{ℕ, ◌+◌, ◌-◌, ◌*◌, ◌/◌, ◌≤◌, true, false, List, ◌++◌, length, take, drop, fold}
use Rattle.std.specs.Prelude.{replicate, slice_set, flat_map}
use Rattle.byteorder.specs.Endian.{little_bytes}
use Rattle.blake2b_core.specs.{Bytes.ByteString, Compression.◌!◌, Compression.◌⊻◌, Compression.iv, Compression.compress}

-- a digest can have n bytes (2.1)
abbrev pub IsDigestLen : ℕ → Type 0
IsDigestLen n = (1 ≤ n) × (n ≤ 64)

-- the number of whole 128-byte blocks before the last block of a message; the empty message has one block, too
abbrev pub count_before_last : ByteString → ℕ
count_before_last message = (length message - 1) / 128

-- the hash after the first k blocks, none of them the last: F takes each with the number of bytes up to its end
unfoldable pub hash_after : ℕ → ByteString → ℕ → List ℕ
hash_after n message k = fold (λ h i. compress h (take 128 (drop (128 * i) message)) (128 * (i + 1)) false)
    (slice_set iv 0 (iv ! 0 ⊻ (0x01010000 ⊻ n))) (range_with_len 0 k)

-- the digest of n bytes (1 to 64) of a message: the last block is padded with zeros
unfoldable pub blake2b : ℕ → ByteString → ByteString
blake2b n message = let k = count_before_last message in let rest = drop (128 * k) message in
    let last = rest ++ replicate (128 - length rest) 0 in
    take n (flat_map (little_bytes 8) (compress (hash_after n message k) last (length message) true))
