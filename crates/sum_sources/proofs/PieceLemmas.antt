-- The piece of a line in the reader's buffer.
use Rattle.std.{specs.Char.is_newline, proofs.lemmas.Bool.false_from_ne_true, proofs.Math.Seq.split_at}
use Rattle.std.proofs.Common.{◌≡◌, ℕ, ◌+◌, ◌-◌, ◌<◌, ◌≤◌, List, ◌∷◌, ◌++◌, length, take, drop, get_or, false, refl, ◌∙◌}
use Rattle.std.proofs.Common.{arith, add-one, length-take, length-drop}
use Rattle.std.proofs.lemmas.List.{Elements.All-from_get_or, length-take-le, get_or-take, drop-take, drop-drop}
use Rattle.memchr.specs.Find.{Nowhere, Passes, is_byte}
use Rattle.sum_sources.specs.LineReader.{HasNoNewline}

-- the bytes before the first newline that is found have none
pub plain_prefix : (bytes : List ℕ) (n : ℕ) → n ≤ length bytes → Nowhere (Passes (is_byte 10) bytes) 0 n
    → HasNoNewline (take n bytes)
plain_prefix bytes n few none = All-from_get_or (λ b. is_newline b ≡ false) (take n bytes) 0 (λ k low.
    let below : k < n = omega (arith, low, length-take-le n bytes few) in
    rw (get_or-take n bytes k 0 below) (false_from_ne_true _ (none k (omega arith) below)))

-- the buffer is cut at a newline
pub cut_buffer : (buf : List ℕ) (s e n : ℕ) → e ≤ length buf → n < e - s
    → get_or (take (e - s) (drop s buf)) n 0 ≡ 10
    → take (e - s) (drop s buf)
    ≡ take n (take (e - s) (drop s buf)) ++ (10 ∷ take (e - (s + (n + 1))) (drop (s + (n + 1)) buf))
cut_buffer buf s e n high few newline =
    let low : n < length (take (e - s) (drop s buf)) = simp (length-take, length-drop) (omega arith) in
    let size : e - s ≡ (n + 1) + (e - (s + (n + 1))) = omega arith in
    split_at (take (e - s) (drop s buf)) n 0 low ∙ rw (newline, ← add-one n, size, drop-take, drop-drop) refl
