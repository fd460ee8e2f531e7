-- What follows a text or a byte in a line.
use Rattle.std.proofs.lemmas.{Bool.Decides.Decides-eqb, List.take_at, List.get_or-append_right, Bool.eq-eqb}
use Rattle.std.proofs.lemmas.{Grind.common_steps, Slice.Eq.starts_is}
use Rattle.std.{specs.Option.option_or, proofs.lemmas.List.Elements.All-get_or, specs.Path.rsplit_once}
use Rattle.std.{specs.Path.rfind_below, proofs.Math.Seq.get_or-append_seam, proofs.Math.Seq.drop-append-add}
use Rattle.std.{specs.List.starts_with}
use Rattle.std.proofs.Common.{ℕ, zero, suc, ◌≡◌, ◌≢◌, ◌+◌, ◌<◌, ◌≤◌, Bool, true, cond, ◌==◌, List, [], ◌∷◌, ◌++◌}
use Rattle.std.proofs.Common.{length, take, drop, get_or, Option, Some, refl, arith, length-append, All, option_map}
use Rattle.memchr.{proofs.lemmas.FindLemmas.Nowhere-more, proofs.lemmas.ValueLemmas.IsLastByte-value, specs.Find.Passes}
use Rattle.memchr.{specs.Find.IsLast, specs.Find.IsLastByte, specs.Find.is_byte}
use Rattle.digest_kinds.{proofs.PrefixLemmas.map_some, specs.Bytes.after_while}
use Rattle.sum_lines.specs.grammar.{LineParts.strip_prefix, LineParts.mark_and_rest, Shapes.is_blank}
use Rattle.sum_lines.specs.grammar.{Shapes.backslash_if}

-- ---- a byte or a text at the start

-- a line's backslash, if it has one, and its text
abbrev pub text : List ℕ → Bool × List ℕ
text line = mark_and_rest (after_while is_blank line)

-- what follows a line's blanks is its backslash, if it has one, and its text
pub mark_and_rest-is : (xs : List ℕ) → xs ≡ backslash_if (mark_and_rest xs).0 ++ (mark_and_rest xs).1
mark_and_rest-is xs = grind arith

-- a prefix that was stripped began the bytes
pub strip_prefix-some : (xs ys zs : List ℕ) → strip_prefix xs ys ≡ Some zs → ys ≡ xs ++ zs
strip_prefix-some xs ys zs h = grind (arith, starts_is)

-- a text that begins the bytes is found there
pub starts-append : (xs ys : List ℕ) → starts_with ◌==◌ (xs ++ ys) xs ≡ true
starts-append xs ys = (starts_is Decides-eqb (xs ++ ys) xs (starts_with ◌==◌ (xs ++ ys) xs) refl).1 ys refl

-- the parenthesis, with a space before it or without, and what follows it
abbrev pub opening : Bool → List ℕ → List ℕ
opening gap inner = cond gap (32 ∷ 40 ∷ []) (40 ∷ []) ++ inner

-- the parenthesis is found, with a space before it or without
pub opened-some : (s inner : List ℕ) → option_or (strip_prefix (32 ∷ 40 ∷ []) s) (strip_prefix (40 ∷ []) s) ≡ Some inner
    → (gap : Bool) × (s ≡ opening gap inner)
opened-some s inner h = grind arith

-- an opening parenthesis, with a space before it or without, is found
pub opened-at : (gap : Bool) (inner : List ℕ) → let s = opening gap inner in
    option_or (strip_prefix (32 ∷ 40 ∷ []) s) (strip_prefix (40 ∷ []) s) ≡ Some inner
opened-at gap inner = grind arith

-- ---- the last such byte

-- a search from the end finds the last such byte
last_byte : (c : ℕ) (s : List ℕ) (n : ℕ) → IsLast (Passes (is_byte c) s) 0 n (rfind_below c s n)
last_byte c s zero = λ k low high. absurd (omega arith)
last_byte c s (suc n) = let more = last_byte c s n in grind (arith, Nowhere-more)

-- a split at the last byte c gives what precedes that byte, and what follows it
pub last_split : (c : ℕ) (s : List ℕ) (r : Option ℕ) → IsLastByte (is_byte c) s r
    → rsplit_once c s ≡ option_map (λ k. (take k s, drop (k + 1) s)) r
unfolding rsplit_once
last_split c s r last =
    let found = IsLastByte-value (is_byte c) s (rfind_below c s (length s)) (last_byte c s (length s)) in
    rw (found, ← IsLastByte-value (is_byte c) s r last) refl

-- the parts of a split at the last byte c, with c between them, are the bytes
pub rsplit-some : (c : ℕ) (s : List ℕ) (p : List ℕ × List ℕ) → rsplit_once c s ≡ Some p → s ≡ p.0 ++ (c ∷ p.1)
unfolding rsplit_once
rsplit-some c s p h =
    let found = map_some (λ k. (take k s, drop (k + 1) s)) (rfind_below c s (length s)) h in
    let last = rw found.1 at (last_byte c s (length s)) in
    rw (← found.2) (grind (arith, common_steps))

-- if nothing that follows a byte c is c, the split at the last c is there
pub rsplit-at : (c : ℕ) (xs ys : List ℕ) → All (λ x. x ≢ c) ys → rsplit_once c (xs ++ (c ∷ ys)) ≡ Some (xs, ys)
rsplit-at c xs ys all =
    let s = xs ++ (c ∷ ys) in
    let high : length xs < length s = omega (arith, length-append xs (c ∷ ys)) in
    let none = λ (i : ℕ) (more : length xs + 1 ≤ i) (less : i < length s) (is : (get_or s i 0 == c) ≡ true). absurd
    (grind (arith, get_or-append_right, All-get_or, length-append)) in
    rw (
      last_split c s (Some (length xs))
          (record { low = omega arith; high = high; after = none }, eq-eqb _ c (get_or-append_seam xs c ys 0)),
      take_at xs (c ∷ ys) (length xs) refl,
      drop-append-add xs (c ∷ ys) 1,
    ) refl
