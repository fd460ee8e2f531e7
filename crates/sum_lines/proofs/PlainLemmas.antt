-- A line that is put together from the parts of a plain line is read as these parts, and no other line is read as
-- plain. No line is both plain and tagged.
use Rattle.std.{proofs.Math.Seq.drop-append-add, specs.List.AllPass, specs.List.before_first, specs.List.after_first}
use Rattle.std.{specs.List.position_or_len}
use Rattle.std.proofs.lemmas.List.{Sums.split_at_first, Sums.passes_at_first, Elements.All-head, Elements.All-tail}
use Rattle.std.proofs.lemmas.List.{Elements.All-weaker, take_at}
use Rattle.std.proofs.Common.{ℕ, ◌≡◌, ◌<◌, ◌≤◌, not, Bool, true, List, ◌∷◌, ◌++◌, length, get_or, None, Some, Ok, refl}
use Rattle.std.proofs.Common.{ap, sym, ◌∙◌, arith, length-drop, take_while, rules}
use Rattle.hex.{proofs.HexLemmas.decode_of-ok, specs.Hex.decode_of, specs.Hex.is_hex_digit}
use Rattle.digest_kinds.{proofs.KindLemmas.no_digits, proofs.PrefixLemmas.prefix_passes}
use Rattle.digest_kinds.{proofs.PrefixLemmas.prefix-and-rest, proofs.PrefixLemmas.prefix_len-stop, specs.Algo.tag_of}
use Rattle.digest_kinds.{specs.Bytes.after_while, specs.Kind.KindValue}
use Rattle.digest_kinds.specs.declared.algo.{Algo.Algo, Algos.Algos, Algos.TheVariants.One, Algos.TheVariants.Any}
use Rattle.sum_lines.proofs.{PrefixLemmas.text, PrefixLemmas.mark_and_rest-is, TaggedLemmas.BeginsText}
use Rattle.sum_lines.proofs.{TaggedLemmas.hex-no_blank, TaggedLemmas.tagged-prefix, TaggedLemmas.mark_and_rest-prefix}
use Rattle.sum_lines.specs.{grammar.LineParts.LinePartsValue, grammar.LineParts.plain_parts, grammar.Shapes.is_blank}
use Rattle.sum_lines.specs.{grammar.Shapes.IsPlain, grammar.Shapes.IsTagged, private.Beginnings.BeginsWithDigits}

-- ---- what is read joins to the line

-- what is read of a plain line comes from digits that spell a digest, cut off at the first blank
plain_parts-some : {a : Algo} (line : List ℕ) {p : LinePartsValue} → plain_parts (One a) line ≡ Some p
    → let t = text line in let tail = after_first is_blank t.1 in
    (d : List ℕ) × BeginsWithDigits a t.1 d
    × (record { escaped = t.0; kind = record { algo = a; len = length d }; digest = d; text = tail } ≡ p)
unfolding plain_parts
plain_parts-some line h = grind arith

-- without digits to cut off, a line isn't plain
pub uncut : {a : Algo} (line : List ℕ) → ((d : List ℕ) → ¬ BeginsWithDigits a (text line).1 d)
    → None ≡ plain_parts (One a) line
uncut line none = grind (arith, plain_parts-some)

-- a text that begins with digits and a blank has a blank
pub cut-within : {a : Algo} {s d : List ℕ} → BeginsWithDigits a s d → position_or_len is_blank s < length s
cut-within cut = grind (arith, length-drop)

-- a line that is read as plain is plain
pub read_is_plain : {algos : Algos} {line : List ℕ} {p : LinePartsValue} → plain_parts algos line ≡ Some p
    → IsPlain algos line p.escaped p.kind p.digest p.text
unfolding plain_parts
read_is_plain {algos = One a} {line} {p} h =
    let s : List ℕ = (text line).1 in
    let read = plain_parts-some line h in
    let cut = read.1 in
    let within = cut-within cut in
    rw (← read.2) (record {
      blanks = take_while is_blank line;
      digits = before_first is_blank s;
      blank = get_or s (position_or_len is_blank s) 0;
      one = refl;
      has = cut.has;
      are_blanks = prefix_passes is_blank line;
      spelled = cut.spelled;
      size = refl;
      is_one_blank = passes_at_first is_blank s 0 within;
      some = cut.some;
      whole = rw (← split_at_first is_blank s 0 within, ← mark_and_rest-is (after_while is_blank line))
          (prefix-and-rest is_blank line);
    })
read_is_plain {algos = Any} h = cc

-- ---- what joins to the line is read

-- the digits of a digest: two at least, and a line may begin with them
pub record AreDigits (ds : List ℕ) : Type 0 where
  pub are : AllPass is_hex_digit ds
  pub two : 2 ≤ length ds
  pub begins : BeginsText ds

-- what decodes to a digest is a digest's digits
pub digits-of : (ds d : List ℕ) → decode_of ds ≡ Ok d → 0 < length d → AreDigits ds
digits-of ds d h lt = grind (arith, decode_of-ok, All-head)

module _ {algos : Algos} {line : List ℕ} {e : Bool} {kind : KindValue} {d tail : List ℕ}
    (t : IsPlain algos line e kind d tail) where
  -- the digits of a plain line are those of a digest
  pub plain-digits : AreDigits t.digits
  plain-digits = search (rules, digits-of)

  -- the blanks and the backslash of a plain line are passed over
  pub plain-prefix : text line ≡ (e, t.digits ++ (t.blank ∷ tail))
  plain-prefix = grind (arith, plain-digits, mark_and_rest-prefix)

-- a plain line is read as its parts
pub plain_is_read : {algos : Algos} {line : List ℕ} (p : LinePartsValue)
    → IsPlain algos line p.escaped p.kind p.digest p.text → plain_parts algos line ≡ Some p
unfolding plain_parts
plain_is_read p t =
    let digits = plain-digits t in
    let no_blanks : AllPass (λ x. not (is_blank x)) t.digits = grind (arith, All-weaker, hex-no_blank) in
    rw (t.one, plain-prefix t) (grind (arith, prefix_len-stop, take_at, drop-append-add))

-- ---- one shape

-- a plain line's digits begin no tag
pub no_prefix : (a : Algo) (ds s rest : List ℕ) → AllPass is_hex_digit ds → 2 ≤ length ds → ds ++ s ≡ tag_of a ++ rest
    → ⊥
no_prefix a (x ∷ y ∷ xs) s rest all two e =
    let later = All-tail (λ b. is_hex_digit b ≡ true) x (y ∷ xs) all in
    no_digits a x y (xs ++ s) rest (search (rules, All-head)) (search (rules, All-head)) e
no_prefix a ds s rest all two e = absurd (omega arith)

-- no line is both plain and tagged
pub one_shape : {algos others : Algos} {line : List ℕ} {e f : Bool} {kind other : KindValue} {d c tail raw : List ℕ}
    → IsPlain algos line e kind d tail → IsTagged others line f other c raw → ⊥
one_shape {other = other} p t =
    let digits = plain-digits p in
    no_prefix other.algo p.digits _ _ digits.are digits.two
    (ap (λ (x : Bool × List ℕ). x.1) (sym (plain-prefix p) ∙ tagged-prefix t))
