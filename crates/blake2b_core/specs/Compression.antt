-- The compression function F of BLAKE2b (RFC 7693, 2.6, 2.7, 3.1, 3.2), on words below 2 ^ 64 and blocks of 128 bytes.
use Rattle.std.specs.Prelude.{ℕ, ◌+◌, ◌/◌, ◌%◌, ◌^◌, Bool, List, [], ◌∷◌, ◌++◌, map, fold, bit_xor, slice_index}
use Rattle.std.specs.Prelude.{slice_index_or, slice_set, if◌then◌else◌}
use Rattle.std.specs.{Int.w64, Int.bit_not, Int.rotate_right, List.range_with_len, Simd.first_chunks}
use Rattle.byteorder.specs.Endian.{little_number}
use Rattle.blake2b_core.specs.Bytes.{ByteString}

-- IV, the initialization vector
abbrev pub iv : List ℕ
iv = 0x6a09e667f3bcc908 ∷ 0xbb67ae8584caa73b ∷ 0x3c6ef372fe94f82b ∷ 0xa54ff53a5f1d36f1 ∷
    0x510e527fade682d1 ∷ 0x9b05688c2b3e6c1f ∷ 0x1f83d9abfb41bd6b ∷ 0x5be0cd19137e2179 ∷ []

-- SIGMA: the order in which the rounds take the words of a block
abbrev pub sigma : List (List ℕ)
sigma =
    (0 ∷ 1 ∷ 2 ∷ 3 ∷ 4 ∷ 5 ∷ 6 ∷ 7 ∷ 8 ∷ 9 ∷ 10 ∷ 11 ∷ 12 ∷ 13 ∷ 14 ∷ 15 ∷ []) ∷
    (14 ∷ 10 ∷ 4 ∷ 8 ∷ 9 ∷ 15 ∷ 13 ∷ 6 ∷ 1 ∷ 12 ∷ 0 ∷ 2 ∷ 11 ∷ 7 ∷ 5 ∷ 3 ∷ []) ∷
    (11 ∷ 8 ∷ 12 ∷ 0 ∷ 5 ∷ 2 ∷ 15 ∷ 13 ∷ 10 ∷ 14 ∷ 3 ∷ 6 ∷ 7 ∷ 1 ∷ 9 ∷ 4 ∷ []) ∷
    (7 ∷ 9 ∷ 3 ∷ 1 ∷ 13 ∷ 12 ∷ 11 ∷ 14 ∷ 2 ∷ 6 ∷ 5 ∷ 10 ∷ 4 ∷ 0 ∷ 15 ∷ 8 ∷ []) ∷
    (9 ∷ 0 ∷ 5 ∷ 7 ∷ 2 ∷ 4 ∷ 10 ∷ 15 ∷ 14 ∷ 1 ∷ 11 ∷ 12 ∷ 6 ∷ 8 ∷ 3 ∷ 13 ∷ []) ∷
    (2 ∷ 12 ∷ 6 ∷ 10 ∷ 0 ∷ 11 ∷ 8 ∷ 3 ∷ 4 ∷ 13 ∷ 7 ∷ 5 ∷ 15 ∷ 14 ∷ 1 ∷ 9 ∷ []) ∷
    (12 ∷ 5 ∷ 1 ∷ 15 ∷ 14 ∷ 13 ∷ 4 ∷ 10 ∷ 0 ∷ 7 ∷ 6 ∷ 3 ∷ 9 ∷ 2 ∷ 8 ∷ 11 ∷ []) ∷
    (13 ∷ 11 ∷ 7 ∷ 14 ∷ 12 ∷ 1 ∷ 3 ∷ 9 ∷ 5 ∷ 0 ∷ 15 ∷ 4 ∷ 8 ∷ 6 ∷ 2 ∷ 10 ∷ []) ∷
    (6 ∷ 15 ∷ 14 ∷ 9 ∷ 11 ∷ 3 ∷ 0 ∷ 8 ∷ 12 ∷ 2 ∷ 13 ∷ 7 ∷ 1 ∷ 4 ∷ 10 ∷ 5 ∷ []) ∷
    (10 ∷ 2 ∷ 8 ∷ 4 ∷ 7 ∷ 6 ∷ 1 ∷ 5 ∷ 15 ∷ 11 ∷ 9 ∷ 14 ∷ 3 ∷ 12 ∷ 13 ∷ 0 ∷ []) ∷ []

-- words ! n: the word at place n
infixl 90 ◌!◌
abbrev pub ◌!◌ : List ℕ → ℕ → ℕ
words ! n = slice_index words n

-- x ⊞ y: the sum of x and y modulo 2 ^ 64
infixl 65 ◌⊞◌
abbrev pub ◌⊞◌ : ℕ → ℕ → ℕ
x ⊞ y = (x + y) % 2 ^ 64

-- x ⊻ y: the exclusive or of x and y
infixl 60 ◌⊻◌
abbrev pub ◌⊻◌ : ℕ → ℕ → ℕ
x ⊻ y = bit_xor x y

-- x ⋙ k: x rotated to the right by k bits
infixl 55 ◌⋙◌
abbrev pub ◌⋙◌ : ℕ → ℕ → ℕ
x ⋙ k = rotate_right w64 x k

-- the mixing function G (3.1). Each line is one of the RFC's, and sets the word of the vector v at a, b, c or d
unfoldable pub mix : List ℕ → ℕ → ℕ → ℕ → ℕ → ℕ → ℕ → List ℕ
mix v a b c d x y = let v = slice_set v a (v ! a ⊞ v ! b ⊞ x) in
    let v = slice_set v d ((v ! d ⊻ v ! a) ⋙ 32) in
    let v = slice_set v c (v ! c ⊞ v ! d) in
    let v = slice_set v b ((v ! b ⊻ v ! c) ⋙ 24) in
    let v = slice_set v a (v ! a ⊞ v ! b ⊞ y) in
    let v = slice_set v d ((v ! d ⊻ v ! a) ⋙ 16) in
    let v = slice_set v c (v ! c ⊞ v ! d) in
    slice_set v b ((v ! b ⊻ v ! c) ⋙ 63)

-- round n (3.2): G on the four columns and then the four diagonals of the vector, with the words in the order of SIGMA
unfoldable pub round : List ℕ → List ℕ → ℕ → List ℕ
round words vector n = let order = slice_index_or sigma (n % 10) [] in
    let v = mix vector 0 4 8 12 (words ! (order ! 0)) (words ! (order ! 1)) in
    let v = mix v 1 5 9 13 (words ! (order ! 2)) (words ! (order ! 3)) in
    let v = mix v 2 6 10 14 (words ! (order ! 4)) (words ! (order ! 5)) in
    let v = mix v 3 7 11 15 (words ! (order ! 6)) (words ! (order ! 7)) in
    let v = mix v 0 5 10 15 (words ! (order ! 8)) (words ! (order ! 9)) in
    let v = mix v 1 6 11 12 (words ! (order ! 10)) (words ! (order ! 11)) in
    let v = mix v 2 7 8 13 (words ! (order ! 12)) (words ! (order ! 13)) in
    mix v 3 4 9 14 (words ! (order ! 14)) (words ! (order ! 15))

-- the vector before the first round (3.2): the hash and IV, changed by the counter and, at the last block, by a flag
unfoldable pub work_vector : List ℕ → ℕ → Bool → List ℕ
work_vector hash counter last = let v = hash ++ iv in
    let v = slice_set v 12 (v ! 12 ⊻ (counter % 2 ^ 64)) in
    let v = slice_set v 13 (v ! 13 ⊻ (counter / 2 ^ 64)) in
    if last then slice_set v 14 (bit_not w64 (v ! 14)) else v

-- the compression function F (3.2), which takes the block as sixteen words of eight bytes, little-endian
unfoldable pub compress : List ℕ → ByteString → ℕ → Bool → List ℕ
compress hash block counter last = let words = map (little_number 8) (first_chunks 8 16 block) in
    let v = fold (round words) (work_vector hash counter last) (range_with_len 0 12) in
    map (λ i. hash ! i ⊻ v ! i ⊻ v ! (i + 8)) (range_with_len 0 8)
