-- What follows a tag is read as the width of a kind, and the text of a kind names it.
use Rattle.std.proofs.Common.{ℕ, ◌≤◌, IsUtf8, ◌≡◌, true, List, [], ◌∷◌, ◌++◌, length, drop, Some, refl, ap, inl, inr}
use Rattle.std.proofs.Common.{arith, rules, take_while, option_map, decimal, ◌*◌}
use Rattle.std.{proofs.lemmas.Fmt.IsAscii-decimal, proofs.lemmas.Fmt.length-decimal-le}
use Rattle.std.{proofs.lemmas.Grind.common_steps, proofs.lemmas.List.drop_at, proofs.lemmas.Str.IsAscii-append}
use Rattle.std.{proofs.lemmas.Str.IsUtf8-from_ascii, specs.Char.is_ascii_digit}
use Rattle.digest_kinds.{proofs.KindLemmas.has_len-range, proofs.BitsLemmas.kind_of_digits-bits}
use Rattle.digest_kinds.{proofs.BitsLemmas.kind_of_digits-some, proofs.BitsLemmas.decimal-digits}
use Rattle.digest_kinds.{proofs.TagLemmas.find-begins, specs.Kind.KindValue}
use Rattle.digest_kinds.specs.{Kind.full_kind, KindText.IsWidth, KindText.NamesKind, KindText.kind_and_rest}
use Rattle.digest_kinds.specs.{KindText.kind_of_digits, KindText.kind_text, Bytes.after_while, Algo.Algo, Algo.Blake2b}
use Rattle.digest_kinds.specs.{Algo.BeginsWithTag, Algo.has_len, Algo.tag_of}
use Rattle.digest_kinds.proofs.PrefixLemmas.{map_some, prefix_passes, prefix-and-rest, prefix_len-all}

-- what follows an algorithm's tag is the width of a kind of that algorithm, and then what is left
pub record HasWidth (a : Algo) (s : List ℕ) (w : KindValue × List ℕ) : Type 0 where
  pub is_algo : w.0.algo ≡ a
  pub width : List ℕ
  pub is_width : IsWidth w.0 width
  pub whole : s ≡ width ++ w.1

-- a kind of the full length has no width
width-none : (a : Algo) (s : List ℕ) → HasWidth a s (full_kind a, s)
width-none a s = record { is_algo = refl; width = []; is_width = inl (refl, refl); whole = refl }

-- the width of a BLAKE2b kind is its bits
width-bits : (s : List ℕ) (w : KindValue × List ℕ)
    → option_map (λ k. (k, after_while is_ascii_digit s)) (kind_of_digits (take_while is_ascii_digit s)) ≡ Some w
    → HasWidth Blake2b (45 ∷ s) w
width-bits s w h =
    let k = map_some (λ k. (k, after_while is_ascii_digit s)) (kind_of_digits (take_while is_ascii_digit s)) h in
    let bits = kind_of_digits-some (take_while is_ascii_digit s) k.0 (prefix_passes is_ascii_digit s) k.1 in
    rw (← k.2) (record {
      is_algo = bits.1;
      width = 45 ∷ take_while is_ascii_digit s;
      is_width = inr (ap (λ l. 45 ∷ l) bits.0, bits.1, bits.2);
      whole = ap (λ l. 45 ∷ l) (prefix-and-rest is_ascii_digit s);
    })

-- what is read after a tag has a width: the bits if a `-` follows BLAKE2b's tag, and otherwise none
pub kind_and_rest-some : (a : Algo) (s : List ℕ) (w : KindValue × List ℕ) → kind_and_rest a s ≡ Some w → HasWidth a s w
kind_and_rest-some Blake2b [] w h = grind (arith, width-none)
kind_and_rest-some Blake2b (b ∷ bs) w h = grind (arith, width-bits, width-none)
kind_and_rest-some a s w h = grind (arith, width-none)

-- ---- the width of a kind, and nothing after it

-- the width of a kind is read as that kind
kind_and_rest-alone : (kind : KindValue) (width : List ℕ) → IsWidth kind width
    → kind_and_rest kind.algo width ≡ Some (kind, [])
kind_and_rest-alone kind width is = grind (arith, common_steps, prefix_len-all, decimal-digits, kind_of_digits-bits)

-- a kind that a text names is read after the tag that begins the text, and nothing follows
pub named_read : (s : List ℕ) (a : Algo) (kind : KindValue) → BeginsWithTag s a → NamesKind s kind
    → kind_and_rest a (drop (length (tag_of a)) s) ≡ Some (kind, [])
named_read s a kind begun named =
    let same : kind.algo ≡ a = grind (arith, find-begins) in
    rw (← same, named.1, drop_at (tag_of kind.algo) named.0 (length (tag_of kind.algo)) refl)
    (kind_and_rest-alone kind named.0 named.2)

-- if a kind is read after the tag that begins a text, and nothing follows, the text names it
pub read_named : (s : List ℕ) (a : Algo) (kind : KindValue) → BeginsWithTag s a
    → kind_and_rest a (drop (length (tag_of a)) s) ≡ Some (kind, []) → NamesKind s kind
read_named s a kind begun read =
    let has = kind_and_rest-some a (drop (length (tag_of a)) s) (kind, []) read in
    (has.width, grind (arith, common_steps, begun.1, has.whole, has.is_algo), has.is_width)

-- ---- the text of a kind

-- the bits of a BLAKE2b kind have at most three digits
pub length_bits : (len : ℕ) → len ≤ 64 → length (decimal (8 * len)) ≤ 3
length_bits len few = length-decimal-le 3 (8 * len) (omega arith) (omega (arith, few)) (omega (arith, few))

-- the text of a kind is ASCII, and so UTF-8
pub IsUtf8-kind_text : (kind : KindValue) → has_len kind.algo kind.len ≡ true → IsUtf8 (kind_text kind)
IsUtf8-kind_text kind has = search (rules, IsUtf8-from_ascii, IsAscii-append, IsAscii-decimal, has_len-range)
