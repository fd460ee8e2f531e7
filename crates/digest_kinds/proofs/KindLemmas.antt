-- Facts of all algorithms. They are proved for one variant after another, so that no crate above has to do that.
use Rattle.std.proofs.Common.{ℕ, ◌≡◌, ◌<◌, ◌≤◌, List, ◌∷◌, ◌++◌, true, arith}
use Rattle.hex.specs.Hex.{is_hex_digit}
use Rattle.digest_kinds.specs.Algo.{Algo, Blake2b, full_len_of, has_len, tag_of}

-- each digest has 1 to 64 bytes
pub has_len-range : (a : Algo) (n : ℕ) → has_len a n ≡ true → (0 < n) × (n ≤ 64)
has_len-range a n h = grind arith

-- an algorithm other than BLAKE2b has digests of one length
pub has_len-full : (a : Algo) (n : ℕ) → (a ≡ Blake2b → ⊥) → has_len a n ≡ true → n ≡ full_len_of a
has_len-full a n other h = grind arith

-- no two digits begin a tag
pub no_digits : (a : Algo) (x y : ℕ) (xs rest : List ℕ) → is_hex_digit x ≡ true → is_hex_digit y ≡ true
    → x ∷ y ∷ xs ≡ tag_of a ++ rest → ⊥
no_digits a x y xs rest h k e = grind arith
