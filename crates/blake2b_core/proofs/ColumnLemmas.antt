-- Lemmas on rows of four words, whose columns are mixed at once.
use Rattle.std.proofs.Common.{◌≡◌, ℕ, ◌-◌, ◌*◌, ◌/◌, ◌%◌, ◌^◌, ◌<◌, List, [], ◌∷◌, length, map, bit_or, bit_xor, ap}
use Rattle.std.proofs.Common.{refl, arith}
use Rattle.std.specs.{Int.rotate_right, Simd.Lanes.zip2}
use Rattle.blake2b_core.specs.{Compression.◌!◌, Compression.◌⊻◌, Compression.◌⋙◌, Compression.mix}
use Rattle.blake2b_core.specs.{private.Columns.columns, private.Columns.diagonals, private.Columns.rotated_row}
use Rattle.blake2b_core.specs.{private.Columns.row, private.Columns.words}

-- what holds of each of the four lanes
below_four : (P : ℕ → Type 0) → P 0 → P 1 → P 2 → P 3 → (j : ℕ) → j < 4 → P j
below_four P p0 p1 p2 p3 j h = grind arith

-- two shifts of a word and an or are a rotation
rotates : (k x : ℕ) → 0 < k → k < 64 → bit_or (x / 2 ^ k) (x * 2 ^ (64 - k) % 2 ^ 64) ≡ x ⋙ k
rotates k x low high =
    let right : k % 64 ≡ k = omega arith in
    let left : (64 - k) % 64 ≡ 64 - k = omega arith in rw (rotate_right, right, left) refl

-- so they are in each lane of rows of four words
pub shifts_rotate : (k : ℕ) → 0 < k → k < 64 → (a : List ℕ) → length a ≡ 4 → (b : List ℕ) → length b ≡ 4
    → (j : ℕ) → j < 4
    → zip2 bit_or
    (zip2 (λ x n. x / 2 ^ n) (zip2 bit_xor a b) (k ∷ k ∷ k ∷ k ∷ []))
    (zip2 (λ x n. x * 2 ^ n % 2 ^ 64) (zip2 bit_xor a b) ((64 - k) ∷ (64 - k) ∷ (64 - k) ∷ (64 - k) ∷ [])) ! j
    ≡ (a ! j ⊻ b ! j) ⋙ k
shifts_rotate k low high (a ∷ b ∷ c ∷ d ∷ []) four (e ∷ f ∷ g ∷ h ∷ []) too =
    below_four _ (rotates k (a ⊻ e) low high) (rotates k (b ⊻ f) low high) (rotates k (c ⊻ g) low high)
    (rotates k (d ⊻ h) low high)
shifts_rotate k low high _ four _ too = absurd (omega arith)

-- the words of four rows, of which three are rotated back
rotated_back : List ℕ → List ℕ
rotated_back w =
    map (λ i. w ! i) (1 ∷ 2 ∷ 3 ∷ 0 ∷ 4 ∷ 5 ∷ 6 ∷ 7 ∷ 11 ∷ 8 ∷ 9 ∷ 10 ∷ 14 ∷ 15 ∷ 12 ∷ 13 ∷ [])

-- if three rows are rotated, their columns mixed, and they are rotated back, the diagonals are mixed
pub columns_of_rotated : (v w : List (List ℕ)) → (x y : List ℕ)
    → words w ≡ columns
    (words (rotated_row (row v 0) 3 ∷ row v 1 ∷ rotated_row (row v 2) 1 ∷ rotated_row (row v 3) 2 ∷ []))
    (rotated_row x 3) (rotated_row y 3)
    → words (rotated_row (row w 0) 1 ∷ row w 1 ∷ rotated_row (row w 2) 3 ∷ rotated_row (row w 3) 2 ∷ [])
    ≡ diagonals (words v) x y
unfolding mix columns diagonals rotated_back
columns_of_rotated v w x y h = ap rotated_back h
