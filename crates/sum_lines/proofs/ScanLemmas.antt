-- What the functions that scan a line return, step by step; what a line begins with, and the parts that it is then read
-- as. The code looks for the first blank of a plain line's text among as many bytes as the longest digest has digits.
use Rattle.std.proofs.lemmas.List.{drop_at, get_or-take, length-take, Elements.All-get_or, Sums.passes_at_first}
use Rattle.std.proofs.lemmas.List.{Sums.position_or_len_is}
use Rattle.std.proofs.Common.{ℕ, ◌≡◌, ◌≢◌, ◌+◌, ◌-◌, ◌*◌, ◌<◌, ◌≤◌, List, [], ◌∷◌, ◌++◌, length, take, drop}
use Rattle.std.proofs.Common.{slice_range, Option, None, Some, MatchOption, Ok, Bor, sym, arith, append_assoc}
use Rattle.std.proofs.Common.{option_copied, get_or, min, ◌/◌, true, cond, IfNone, IfSome}
use Rattle.std.{proofs.Common.refl, proofs.Common.length-drop, proofs.Common.rules, specs.List.position_or_len}
use Rattle.std.{proofs.lemmas.Grind.common_steps, specs.Option.option_or, specs.Path.rsplit_once}
use Rattle.memchr.specs.Find.{IsFirstByte, is_byte2}
use Rattle.hex.{proofs.HexLemmas.decode_of-ok, specs.Hex.decode_of}
use Rattle.digest_kinds.specs.{KindText.kind_and_rest, Bytes.after_while, declared.algo.Algos.TheVariants.One}
use Rattle.digest_kinds.specs.{Kind.KindValue, Digest.IsDigits, Algo.tag_of, Algo.full_len_of, Algo.has_len}
use Rattle.digest_kinds.specs.{declared.algo.Algos.Algos, declared.algo.Algo.TheVariants.Blake2b}
use Rattle.digest_kinds.{proofs.KindTextLemmas.kind_and_rest-some, proofs.PrefixLemmas.none_of}
use Rattle.digest_kinds.{proofs.KindLemmas.has_len-full, specs.declared.algo.Algo.Algo}
use Rattle.sum_lines.proofs.{TaggedLemmas.hex-no_blank, TaggedLemmas.tag_in-some, PlainLemmas.uncut}
use Rattle.sum_lines.proofs.{PlainLemmas.cut-within, PlainLemmas.no_prefix, PlainLemmas.plain-digits}
use Rattle.sum_lines.proofs.{PlainLemmas.plain-prefix, PlainLemmas.read_is_plain}
use Rattle.sum_lines.proofs.PrefixLemmas.{text, opening, strip_prefix-some, starts-append, opened-some, rsplit-some}
use Rattle.sum_lines.specs.{declared.reading.line_parts.Front.Front, grammar.Shapes.is_blank}
use Rattle.sum_lines.specs.{grammar.LineParts.strip_prefix, grammar.LineParts.tag_in, grammar.LineParts.tagged_parts}
use Rattle.sum_lines.specs.{grammar.LineParts.plain_parts}
use Rattle.sum_lines.specs.private.Beginnings.{IsFront, BeginsWithDigits, IsFirstBlank, EndsDigits, IsReadAs}
use Rattle.sum_lines.specs.declared.reading.beginnings.Beginning.TheVariants as beginnings

-- ---- a text at the start

-- what std's comparison finds after a prefix is what follows that prefix
pub after_is : (xs ys : List ℕ) (r : Option (Bor (List ℕ)))
    → MatchOption r ((rest : List ℕ) → ys ≢ xs ++ rest) (λ x. ys ≡ xs ++ x.now) → option_copied r ≡ strip_prefix xs ys
after_is xs ys None other = none_of (strip_prefix xs ys) (λ zs h. other zs (strip_prefix-some xs ys zs h))
after_is xs ys (Some x) is = grind (arith, starts-append, drop_at)

-- ---- digits that spell no digest of that length

-- a digest is spelled by two digits for each byte
pub two_digits : (s d : List ℕ) → decode_of s ≡ Ok d → length s ≡ 2 * length d
two_digits s d h = (decode_of-ok s d h).2

-- a text that decodes to 1 to 64 bytes is a digest's digits
pub decoded-digits : (s d : List ℕ) → decode_of s ≡ Ok d → 1 ≤ length d → length d ≤ 64 → IsDigits s
decoded-digits s d h some few = grind (arith, decode_of-ok)

-- ---- the places of the parts in the line

-- a line ends with these bytes
abbrev pub EndsIn : List ℕ → List ℕ → Type 0
EndsIn line s = (prefix : List ℕ) × (line ≡ prefix ++ s)

-- a line ends with its text
pub front-ends : {line s : List ℕ} {f : Front} → IsFront line f → s ≡ (text line).1 → EndsIn line s
front-ends {line} {f = f} front is = (take f.start line, grind (arith, common_steps))

-- a line that ends with a text ends with what follows the first bytes of the text
pub ends-after : {line s : List ℕ} (xs rest : List ℕ) → EndsIn line s → s ≡ xs ++ rest → EndsIn line rest
ends-after xs rest ends is = (ends.0 ++ xs, grind (arith, append_assoc))

-- the name after the parenthesis has its place in the line
pub name_place : {line s inner : List ℕ} {name : List ℕ × List ℕ} (a : Algo) (w : KindValue × List ℕ) → EndsIn line s
    → Some w ≡ kind_and_rest a (drop (length (tag_of a)) s)
    → Some inner ≡ option_or (strip_prefix (32 ∷ 40 ∷ []) w.1) (strip_prefix (40 ∷ []) w.1)
    → Some name ≡ rsplit_once 41 inner
    → (length inner ≤ length line) × (length line - length inner + length name.0 ≤ length line)
    × (slice_range line (length line - length inner) (length line - length inner + length name.0) ≡ name.0)
name_place {s = s} {inner = inner} {name = name} a w ends wide opened split =
    let width = kind_and_rest-some a (drop (length (tag_of a)) s) w (sym wide) in
    let gap = opened-some w.1 inner (sym opened) in
    let front = take (length (tag_of a)) s ++ (width.width ++ opening gap.0 []) in
    let after = ends-after front inner ends (grind (arith, common_steps)) in
    let is = rsplit-some 41 inner name (sym split) in
    grind (arith, common_steps)

-- the bytes with which a line ends have their place in it
pub tail-place : {line tail : List ℕ} → EndsIn line tail
    → slice_range line (length line - length tail) (length line) ≡ tail
tail-place ends = grind (arith, common_steps)

-- what was read step by step after the tag; no step looks which algorithm it is
module _ {w : KindValue × List ℕ} {s inner after digits : List ℕ} {name : List ℕ × List ℕ} (a : Algo) (line : List ℕ)
    (found : tag_in (One a) (text line).1 ≡ Some a) (text_is : s ≡ (text line).1)
    (width : Some w ≡ kind_and_rest a (drop (length (tag_of a)) s))
    (opened : Some inner ≡ option_or (strip_prefix (32 ∷ 40 ∷ []) w.1) (strip_prefix (40 ∷ []) w.1))
    (split : Some name ≡ rsplit_once 41 inner) (after_is : after ≡ after_while is_blank name.1)
    (sign : Some digits ≡ strip_prefix (61 ∷ []) after) where
  -- what was read of a tagged line, step by step, is the line's parts
  pub tagged-read : {d : List ℕ} → decode_of (after_while is_blank digits) ≡ Ok d → length d ≡ w.0.len
      → 0 < length name.0
      → Some (record { escaped = (text line).0; kind = w.0; digest = d; text = name.0 }) ≡ tagged_parts (One a) line
  unfolding tagged_parts
  tagged-read {d} spelled size some = grind arith

  -- digits that spell no digest of the kind's length give no parts
  pub tagged-none : ((d : List ℕ) → decode_of (after_while is_blank digits) ≡ Ok d → length d ≢ w.0.len)
      → None ≡ tagged_parts (One a) line
  unfolding tagged_parts
  tagged-none none = grind arith

-- a plain line has two digits for each byte of its digest, at most 64, so the search meets the blank after them
cut-size : {a : Algo} {s d : List ℕ} → BeginsWithDigits a s d
    → (position_or_len is_blank s ≡ 2 * length d) × (length d ≤ 64)
cut-size cut = search (rules, cut-within, two_digits)

-- ---- the tag

-- a line that begins with a tag is read from there on, and isn't plain
pub by_tag : (algos : Algos) (line : List ℕ) (a : Algo) → tag_in algos (text line).1 ≡ Some a
    → IsReadAs algos line (beginnings.Tag a)
unfolding tagged_parts
by_tag algos line a h =
    let found = tag_in-some algos (text line).1 h in
    let begins : tag_in (One a) (text line).1 ≡ Some a = rw found.1 (rw (starts-append (tag_of a) _) refl) in (
      begins,
      rw (h, begins) refl,
      none_of (plain_parts algos line) (λ p plain.
          let is = read_is_plain plain in
          let digits = plain-digits is in
          no_prefix a is.digits _ _ digits.are digits.two (rw (plain-prefix is) at found.1)),
    )

-- ---- the blank after the digits

-- an algorithm other than BLAKE2b has digests of one length, so a line's digits are as many
pub fixed_len : (a : Algo) (s : List ℕ) (n : ℕ) → (a ≡ Blake2b → ⊥) → n ≡ 2 * full_len_of a → IsFirstBlank a s n
fixed_len a s n other is = grind (arith, has_len-full, cut-size)

-- if no blank is found among the first bytes, the line isn't plain
pub search_none : (a : Algo) (s : List ℕ) {n : ℕ} (r : Option ℕ) → n ≡ min (length s) 129
    → IsFirstByte (is_byte2 32 9) (take n s) r → IfNone r ((d : List ℕ) → ¬ BeginsWithDigits a s d)
search_none a s {n} None is none = λ d cut.
    let size = cut-size cut in
    let here = none (position_or_len is_blank s) in
    grind (arith, cut-within, length-take, get_or-take, passes_at_first)
search_none a s (Some i) is first = tt

-- the blank that is found is the first one
pub search_some : (a : Algo) (s : List ℕ) {n : ℕ} (r : Option ℕ) → n ≡ min (length s) 129
    → IsFirstByte (is_byte2 32 9) (take n s) r → IfSome r (IsFirstBlank a s)
search_some a s r is none = search (rules, position_or_len_is, get_or-take)

-- a blank ends the digits of a plain line, and something follows it
pub end_none : (a : Algo) (s : List ℕ) (at : ℕ) → IsFirstBlank a s at
    → (at + 1 < length s → is_blank (get_or s at 0) ≡ true → ⊥) → (d : List ℕ) → ¬ BeginsWithDigits a s d
end_none a s at place other d = grind (arith, length-drop, passes_at_first)

-- no blank precedes the blank after digits
first-blank : (s d : List ℕ) (at : ℕ) → at < length s → is_blank (get_or s at 0) ≡ true → decode_of (take at s) ≡ Ok d
    → position_or_len is_blank s ≡ at
first-blank s d at within blank spelled =
    let are = (decode_of-ok (take at s) d spelled).1 in
    position_or_len_is is_blank s at 0 (omega (arith, within))
    (λ k less. grind (arith, All-get_or, hex-no_blank, get_or-take, length-take)) (λ _. blank)

-- ---- a plain line with such digits

-- if the algorithm has no digests as long as a line's digits say, the line isn't plain
pub kind_none : {a : Algo} {s : List ℕ} {at : ℕ} → EndsDigits a s at
    → ◌≡◌ {A = Option KindValue} None (cond (has_len a (at / 2)) (Some (record { algo = a; len = at / 2 })) None)
    → (d : List ℕ) → ¬ BeginsWithDigits a s d
kind_none ends none d = grind (arith, cut-size)

-- if what precedes the blank isn't a digest's digits, the line isn't plain
pub digits_none : {a : Algo} {s : List ℕ} {at : ℕ} → EndsDigits a s at → (IsDigits (take at s) → ⊥)
    → (d : List ℕ) → ¬ BeginsWithDigits a s d
digits_none ends none d = grind (arith, decoded-digits)

-- the reasons why a line isn't plain
pub ruleset not_plain = (kind_none, digits_none, uncut)

-- if the blank ends a digest's digits, of a length that the algorithm has, the line is read as its parts
pub plain_read : (a : Algo) (line : List ℕ) {d : List ℕ} {at : ℕ} (k : KindValue) → let s = (text line).1 in
    EndsDigits a s at → decode_of (take at s) ≡ Ok d
    → Some k ≡ cond (has_len a (at / 2)) (Some (record { algo = a; len = at / 2 })) None
    → Some (record { escaped = (text line).0; kind = k; digest = d; text = drop (at + 1) s })
    ≡ plain_parts (One a) line
unfolding plain_parts
plain_read a line {d} {at} k ends spelled kind =
    let within = ends.within in
    let blank = first-blank (text line).1 d at (omega arith) ends.blank spelled in
    grind (arith, two_digits, length-take, length-drop)
