-- Lemmas on the compression function's definitions.
use Rattle.std.proofs.Common.{◌≡◌, ℕ, zero, suc, ◌*◌, ◌/◌, ◌%◌, ◌^◌, ◌<◌, ◌≤◌, Bool, true, false, List, [], ◌∷◌, ◌++◌}
use Rattle.std.proofs.Common.{length, take, drop, map, get_or, slice_index_or, if◌then◌else◌, refl, sym, ap, ◌∙◌, arith}
use Rattle.std.proofs.lemmas.{List.length-drop, List.drop-drop, List.length-map, List.get_or-map, List.ext_get_or}
use Rattle.std.proofs.lemmas.{Simd.pick_l_left}
use Rattle.std.specs.{Int.w64, Int.bit_not, List.range_with_len, Simd.first_chunks, Simd.Lanes.all_below}
use Rattle.std.specs.{Simd.Lanes.pick_l}
use lib.Dec.{T}
use Rattle.byteorder.specs.Endian.{little_number}
use Rattle.blake2b_core.specs.{Compression.◌!◌, Compression.◌⊻◌, Compression.sigma, Compression.iv}
use Rattle.blake2b_core.specs.{Compression.work_vector, private.Columns.block_words, private.Columns.schedule}

-- row k of SIGMA
abbrev pub sigma_row : ℕ → List ℕ
sigma_row k = map (λ i. slice_index_or sigma k [] ! i) (range_with_len 0 16)

-- what a swizzle picks by row k, out of the vector and a second copy of it
pub picked-row : (m : List ℕ) (r k : ℕ) → length m ≡ 16 → T (all_below 16 (sigma_row k)) → r % 10 ≡ k
    → pick_l 0 (m ++ m) (sigma_row k) ≡ schedule m r
unfolding schedule
picked-row m r k size below row = pick_l_left 0 m m 16 (sigma_row k) size below ∙ rw row refl

-- the working vector before the first round, written out
pub start_is : (h : List ℕ) (t : ℕ) (last : Bool) → length h ≡ 8
    → work_vector h t last
    ≡ h ! 0 ∷ h ! 1 ∷ h ! 2 ∷ h ! 3 ∷ h ! 4 ∷ h ! 5 ∷ h ! 6 ∷ h ! 7 ∷ iv ! 0 ∷ iv ! 1 ∷ iv ! 2 ∷ iv ! 3
    ∷ (iv ! 4 ⊻ t % 2 ^ 64) ∷ (iv ! 5 ⊻ t / 2 ^ 64) ∷ (if last then bit_not w64 (iv ! 6) else iv ! 6) ∷ iv ! 7 ∷ []
unfolding work_vector
start_is (a ∷ b ∷ c ∷ d ∷ e ∷ f ∷ g ∷ h ∷ []) t true size = refl
start_is (a ∷ b ∷ c ∷ d ∷ e ∷ f ∷ g ∷ h ∷ []) t false size = refl
start_is _ t last size = absurd (omega arith)

-- there are as many chunks as were asked for
pub length-first_chunks : {X : Type 0} (n k : ℕ) (xs : List X) → length (first_chunks n k xs) ≡ k
length-first_chunks n zero xs = refl
length-first_chunks n (suc k) xs = ap suc (length-first_chunks n k (drop n xs))

-- the chunk at a place
pub get_or-first_chunks : {X : Type 0} (n k : ℕ) (xs : List X) (i : ℕ) (d : List X) → i < k
    → get_or (first_chunks n k xs) i d ≡ take n (drop (n * i) xs)
get_or-first_chunks n zero xs i d h = absurd (omega arith)
get_or-first_chunks n (suc k) xs zero d h = let none : n * 0 ≡ 0 = omega arith in rw none refl
get_or-first_chunks n (suc k) xs (suc i) d h =
    grind (arith, get_or-first_chunks n k (drop n xs) i d (omega arith), drop-drop)

-- sixteen words that read as the bytes of a block are its words
pub block_words_is : (m block : List ℕ) → length m ≡ 16 → length block ≡ 128
    → ((k : ℕ) → k < length m → m ! k ≡ little_number 8 (drop (8 * k) block)) → m ≡ block_words block
block_words_is m block sixteen size read =
    let count = length-map (first_chunks 8 16 block) (little_number 8) in
    ext_get_or 0 m _ (sixteen ∙ sym count) (λ i below.
    let here : i < 16 = omega arith in
    let long : 8 ≤ length (drop (8 * i) block) = omega (arith, length-drop (8 * i) block) in
    let same : little_number 8 (take 8 (drop (8 * i) block)) ≡ little_number 8 (drop (8 * i) block) = grind arith in
    read i below ∙ sym (get_or-map (little_number 8) (first_chunks 8 16 block) i [] 0 here
    ∙ rw (get_or-first_chunks 8 16 block i [] here) same))
