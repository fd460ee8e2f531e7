-- How the code mixes: four columns at once. Its working vector is four rows of four words.
use Rattle.std.specs.{List.range_with_len, Prelude.ℕ, Prelude.◌+◌, Prelude.◌/◌, Prelude.◌%◌, Prelude.List, Prelude.[]}
use Rattle.std.specs.{Prelude.map, Prelude.fold, Prelude.slice_index_or, Simd.first_chunks}
use Rattle.byteorder.specs.Endian.{little_number}
use Rattle.blake2b_core.specs.{Bytes.ByteString, Compression.◌!◌, Compression.◌⊻◌, Compression.sigma, Compression.mix}

-- row n of the vector
abbrev pub row : List (List ℕ) → ℕ → List ℕ
row vector n = slice_index_or vector n []

-- the words of the rows, one row after the other
abbrev pub words : List (List ℕ) → List ℕ
words vector = map (λ i. row vector (i / 4) ! (i % 4)) (range_with_len 0 16)

-- the words of a row, rotated to the left by k places
abbrev pub rotated_row : List ℕ → ℕ → List ℕ
rotated_row lanes k = map (λ j. lanes ! ((j + k) % 4)) (range_with_len 0 4)

-- the sixteen words of a block, each of eight bytes, the lowest first
abbrev pub block_words : ByteString → List ℕ
block_words block = map (little_number 8) (first_chunks 8 16 block)

-- the words of a block in the order in which round n takes them
unfoldable pub schedule : List ℕ → ℕ → List ℕ
schedule block n = map (λ i. block ! (slice_index_or sigma (n % 10) [] ! i)) (range_with_len 0 16)

-- G on the four columns of the vector, with the words of two lists
unfoldable pub columns : List ℕ → List ℕ → List ℕ → List ℕ
columns vector first second =
    fold (λ v j. mix v j (4 + j) (8 + j) (12 + j) (first ! j) (second ! j)) vector (range_with_len 0 4)

-- G on the four diagonals of the vector: each row begins one place further on than the row before it
unfoldable pub diagonals : List ℕ → List ℕ → List ℕ → List ℕ
diagonals vector first second =
    fold (λ v j. mix v j (4 + (j + 1) % 4) (8 + (j + 2) % 4) (12 + (j + 3) % 4) (first ! j) (second ! j)) vector
    (range_with_len 0 4)

-- the new hash, from the old one and the vector after the last round
abbrev pub next_state : List ℕ → List ℕ → List ℕ
next_state hash vector = map (λ i. hash ! i ⊻ vector ! i ⊻ vector ! (i + 8)) (range_with_len 0 8)
