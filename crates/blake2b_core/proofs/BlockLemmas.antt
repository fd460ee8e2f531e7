-- Lemmas on the blocks of a message, on the hash after some of them, and on the digest.
use Rattle.std.proofs.Common.{◌≡◌, ℕ, zero, suc, ◌+◌, ◌-◌, ◌*◌, ◌≤◌, true, false, List, ◌++◌, length, take, drop}
use Rattle.std.proofs.Common.{add-one, replicate, refl, arith, flat_map}
use Rattle.std.proofs.lemmas.List.{take-append-le, drop-append-le, length-drop, map-id, drop-drop, drop-take, take-take}
use Rattle.std.proofs.lemmas.List.{FromFn.map-range_with_len_more, Sums.fold-append}
use Rattle.std.specs.Simd.{first_chunks}
use Rattle.byteorder.specs.Endian.{little_bytes}
use Rattle.blake2b_core.proofs.CompressionLemmas.{length-first_chunks, get_or-first_chunks}
use Rattle.blake2b_core.specs.{Bytes.ByteString, Compression.compress, Digest.count_before_last, Digest.hash_after}
use Rattle.blake2b_core.specs.{Digest.blake2b, private.OneShot.HasBlocksFrom}

-- the chunks of a message from one of its blocks on are its blocks
pub are_blocks : {bs : List ByteString} (m : ByteString) (k count : ℕ)
    → bs ≡ first_chunks 128 count (drop (128 * k) m) → HasBlocksFrom m k bs
are_blocks m k count are = grind (arith, length-first_chunks, get_or-first_chunks, drop-drop)

-- whole chunks don't change when what follows them is cut off
pub first_chunks_take : (n k : ℕ) (xs : List ℕ) (j : ℕ) → n * k ≤ j → first_chunks n k (take j xs) ≡ first_chunks n k xs
first_chunks_take n zero xs j fits = refl
first_chunks_take n (suc k) xs j fits =
    let split : j ≡ n + (j - n) = omega arith in
    grind (arith, take-take, drop-take, first_chunks_take n k (drop n xs) (j - n) (omega arith))

-- one more block
pub hash_after-more : (n : ℕ) (m : ByteString) (k : ℕ)
    → hash_after n m (k + 1) ≡ compress (hash_after n m k) (take 128 (drop (128 * k) m)) (128 * (k + 1)) false
unfolding hash_after
hash_after-more n m k =
    let range = simp map-id at (map-range_with_len_more (λ x. x) 0 k k (omega arith)) in rw (range, fold-append) refl

-- before the first block the message doesn't matter
hash_after-none : (n : ℕ) (m x : ByteString) → hash_after n m 0 ≡ hash_after n x 0
unfolding hash_after
hash_after-none n m x = refl

-- what follows the first blocks doesn't change the hash after them
pub hash_after-append : (n : ℕ) (m x : ByteString) (k : ℕ) → 128 * k ≤ length m
    → hash_after n (m ++ x) k ≡ hash_after n m k
hash_after-append n m x zero fits = hash_after-none n (m ++ x) m
hash_after-append n m x (suc k) fits =
    let within : 128 * k ≤ length m = omega arith in
    let long : 128 ≤ length (drop (128 * k) m) = omega (arith, length-drop (128 * k) m) in
    rw (← add-one k, hash_after-more n (m ++ x) k, hash_after-more n m k, hash_after-append n m x k within)
    (rw (drop-append-le, take-append-le) refl)

-- the digest, from the hash before the last block and that block's bytes
pub blake2b-from : {last bytes : ByteString} {h : List ℕ} {k t : ℕ} (n : ℕ) (m : ByteString) → k ≡ count_before_last m
    → h ≡ hash_after n m k → last ≡ bytes ++ replicate (128 - length bytes) 0 → bytes ≡ drop (128 * k) m → t ≡ length m
    → take n (flat_map (little_bytes 8) (compress h last t true)) ≡ blake2b n m
unfolding blake2b
blake2b-from n m count hash filled rest total = cc
