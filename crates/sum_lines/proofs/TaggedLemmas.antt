-- The parts that are read of a tagged line, put together, are the line. A line that is put together from the parts of a
-- tagged line is read as these parts.
use Rattle.std.proofs.Common.{ℕ, ◌≡◌, Bool, true, ◌==◌, ◌&&◌, List, [], ◌∷◌, ◌++◌, length, drop, Some, refl, ◌≢◌, false}
use Rattle.std.proofs.Common.{eq-eqb, arith, nat_lt, take_while, All, rules}
use Rattle.std.proofs.lemmas.{Bool.eqb-true, Bool.ltb-true, Bool.and_parts, Bool.lt-ltb, Bool.Decides.Decides-eqb}
use Rattle.std.proofs.lemmas.{Grind.common_steps, List.drop_at, List.Elements.All-cons, List.Elements.All-head}
use Rattle.std.proofs.lemmas.{List.Elements.All-append, List.Elements.All-weaker}
use Rattle.std.{proofs.lemmas.List.Prefix.front_rest, proofs.lemmas.Option.cond_some, proofs.lemmas.Slice.Eq.starts_is}
use Rattle.std.{specs.List.starts_with, specs.List.AllPass, specs.Option.option_or, specs.Path.rsplit_once}
use Rattle.std.{specs.Result.result_ok}
use Rattle.hex.{proofs.HexLemmas.decode_of-ok, specs.Hex.decode_of, specs.Hex.is_hex_digit}
use Rattle.digest_kinds.{proofs.BitsLemmas.kind_of_digits-bits, proofs.BitsLemmas.decimal-digits}
use Rattle.digest_kinds.{proofs.KindTextLemmas.kind_and_rest-some, proofs.TagLemmas.IfSome-find-begins}
use Rattle.digest_kinds.{proofs.TagLemmas.find-begins, specs.Bytes.after_while}
use Rattle.digest_kinds.proofs.PrefixLemmas.{bind_some, ok_some, prefix_passes, prefix-and-rest, parts-at}
use Rattle.digest_kinds.proofs.PrefixLemmas.{prefix_len-all}
use Rattle.digest_kinds.specs.{KindText.IsWidth, KindText.kind_and_rest, Algo.all_algos, Algo.tag_of}
use Rattle.digest_kinds.specs.{declared.algo.Algos.Algos, declared.algo.Algos.TheVariants.One}
use Rattle.digest_kinds.specs.{declared.algo.Algos.TheVariants.Any, Kind.KindValue, declared.algo.Algo.Algo}
use Rattle.sum_lines.proofs.PrefixLemmas.{text, opening, mark_and_rest-is, strip_prefix-some, opened-some, rsplit-some}
use Rattle.sum_lines.proofs.PrefixLemmas.{opened-at, rsplit-at, starts-append}
use Rattle.sum_lines.specs.grammar.{LineParts.LinePartsValue, LineParts.strip_prefix, LineParts.mark_and_rest}
use Rattle.sum_lines.specs.grammar.{LineParts.tag_in, LineParts.tagged_parts, Shapes.is_blank, Shapes.Allows}
use Rattle.sum_lines.specs.grammar.{Shapes.IsTagged, Shapes.backslash_if}

-- ---- the tag

-- the algorithm that is found is allowed, and its tag begins the bytes
pub tag_in-some : (algos : Algos) (s : List ℕ) {a : Algo} → tag_in algos s ≡ Some a
    → Allows algos a × (s ≡ tag_of a ++ drop (length (tag_of a)) s)
tag_in-some (One b) s {a} h =
    let found = cond_some (starts_with ◌==◌ s (tag_of b)) b a h in
    rw (← found.1) (refl, (starts_is Decides-eqb s (tag_of b) _ refl).0 found.0)
tag_in-some Any s h = let found = rw h at (IfSome-find-begins s all_algos) in grind (arith, front_rest)

-- ---- the whole line

-- a line that is read as tagged is tagged
pub read_is_tagged : {algos : Algos} {line : List ℕ} {p : LinePartsValue} → tagged_parts algos line ≡ Some p
    → IsTagged algos line p.escaped p.kind p.digest p.text
unfolding tagged_parts
read_is_tagged {algos} {line} {p} h =
    let t : Bool × List ℕ = text line in
    let algo = bind_some (tag_in algos t.1) _ h in
    let rest : List ℕ = drop (length (tag_of algo.0)) t.1 in
    let width = bind_some (kind_and_rest algo.0 rest) _ algo.2 in
    let w : List ℕ = width.0.1 in
    let inner = bind_some (option_or (strip_prefix (32 ∷ 40 ∷ []) w) (strip_prefix (40 ∷ []) w)) _ width.2 in
    let name = bind_some (rsplit_once 41 inner.0) _ inner.2 in
    let digits = bind_some (strip_prefix (61 ∷ []) (after_while is_blank name.0.1)) _ name.2 in
    let digest = bind_some (result_ok (decode_of (after_while is_blank digits.0))) _ digits.2 in
    let is = cond_some (length digest.0 == width.0.0.len && nat_lt 0 (length name.0.0)) _ p digest.2 in
    let fits = and_parts (length digest.0 == width.0.0.len) (nat_lt 0 (length name.0.0)) is.0 in
    let found = tag_in-some algos t.1 algo.1 in
    let wide = kind_and_rest-some algo.0 rest width.0 width.1 in
    let gap = opened-some w inner.0 inner.1 in
    rw (← is.1) (record {
      blanks = take_while is_blank line;
      width = wide.width;
      gap = gap.0;
      blanks_before = take_while is_blank name.0.1;
      blanks_after = take_while is_blank digits.0;
      digits = after_while is_blank digits.0;
      allowed = rw wide.is_algo found.0;
      are_blanks = prefix_passes is_blank line;
      is_width = wide.is_width;
      some = ltb-true 0 (length name.0.0) fits.1;
      are_before = prefix_passes is_blank name.0.1;
      are_after = prefix_passes is_blank digits.0;
      spelled = ok_some _ digest.0 digest.1;
      size = eqb-true (length digest.0) width.0.0.len fits.0;
      whole = rw (
        ← prefix-and-rest is_blank digits.0,
        ← strip_prefix-some (61 ∷ []) (after_while is_blank name.0.1) digits.0 digits.1,
        ← prefix-and-rest is_blank name.0.1,
        ← rsplit-some 41 inner.0 name.0 name.1,
        ← gap.1,
        ← wide.whole,
        wide.is_algo,
        ← found.1,
        ← mark_and_rest-is (after_while is_blank line),
      ) (prefix-and-rest is_blank line);
    })

-- ---- bytes that a line may begin with

-- the first of the bytes is no blank, no backslash and no `#`
abbrev pub BeginsText : List ℕ → Type 0
BeginsText [] = ⊥
BeginsText (x ∷ xs) = (is_blank x ≡ false) × ((x == 92) ≡ false) × ((x == 35) ≡ false)

-- after a line's blanks the backslash is read, if there is one
pub mark_and_rest-prefix : (blanks : List ℕ) (e : Bool) (xs rest : List ℕ) → AllPass is_blank blanks → BeginsText xs
    → mark_and_rest (after_while is_blank (blanks ++ (backslash_if e ++ (xs ++ rest)))) ≡ (e, xs ++ rest)
mark_and_rest-prefix blanks e [] rest are b = absurd b
mark_and_rest-prefix blanks e (x ∷ xs) rest are b =
    let marked = parts-at is_blank blanks 92 (x ∷ (xs ++ rest)) are refl in
    let text = parts-at is_blank blanks x (xs ++ rest) are b.0 in grind arith

-- a digit is no blank
pub hex-no_blank : (x : ℕ) → is_hex_digit x ≡ true → is_blank x ≡ false
hex-no_blank x h = grind arith

-- ---- the width, and the parenthesis after it

-- a kind's width is read as that kind
kind_and_rest-of : (kind : KindValue) (w : List ℕ) (g : Bool) (s : List ℕ) → IsWidth kind w
    → kind_and_rest kind.algo (w ++ opening g s) ≡ Some (kind, opening g s)
kind_and_rest-of kind w g s h = search (rules, parts-at, decimal-digits, kind_of_digits-bits)

-- ---- blanks, digits and the parenthesis

-- after blanks, the digits to the line's end are left
pub rest-hex : (blanks ds : List ℕ) → AllPass is_blank blanks → AllPass is_hex_digit ds
    → after_while is_blank (blanks ++ ds) ≡ ds
rest-hex blanks [] are all = grind (arith, common_steps, prefix_len-all)
rest-hex blanks (d ∷ ds) are all =
    (parts-at is_blank blanks d ds are (hex-no_blank d (All-head (λ x. is_hex_digit x ≡ true) d ds all))).1

-- a byte that is no closing parenthesis
abbrev IsNot41 : ℕ → Type 0
IsNot41 x = x ≢ 41

-- no byte is a closing parenthesis among bytes that pass a test which it fails
free : (test : ℕ → Bool) (xs : List ℕ) → test 41 ≡ false → AllPass test xs → All IsNot41 xs
free test xs stop all = grind (arith, All-weaker)

-- ---- a tagged line

module _ {algos : Algos} {line : List ℕ} {e : Bool} {kind : KindValue} {d raw : List ℕ}
    (t : IsTagged algos line e kind d raw) where
  -- what follows the opening parenthesis in the tagged line
  abbrev pub inner_of : List ℕ
  inner_of = raw ++ (41 ∷ (t.blanks_before ++ (61 ∷ (t.blanks_after ++ t.digits))))

  -- the blanks and the backslash of a tagged line are passed over
  pub tagged-prefix : text line ≡ (e, tag_of kind.algo ++ (t.width ++ opening t.gap inner_of))
  tagged-prefix = grind (arith, mark_and_rest-prefix)

-- a tagged line is read as its parts
pub tagged_is_read : {algos : Algos} {line : List ℕ} (p : LinePartsValue)
    → IsTagged algos line p.escaped p.kind p.digest p.text → tagged_parts algos line ≡ Some p
unfolding tagged_parts
tagged_is_read {algos} p t =
    let digits = (decode_of-ok t.digits p.digest t.spelled).1 in
    let value : List ℕ = t.blanks_after ++ t.digits in
    let value_free = All-append IsNot41 t.blanks_after t.digits (free is_blank t.blanks_after refl t.are_after)
    (free is_hex_digit t.digits refl digits) in
    let last = All-append IsNot41 t.blanks_before (61 ∷ value) (free is_blank t.blanks_before refl t.are_before)
    (All-cons IsNot41 61 value (λ e. cc) value_free) in
    let named : tag_in algos (tag_of p.kind.algo ++ (t.width ++ opening t.gap (inner_of t))) ≡ Some p.kind.algo =
    let allowed = t.allowed in grind (arith, starts-append, find-begins) in
    rw (
      tagged-prefix t,
      named,
      drop_at (tag_of p.kind.algo) _ (length (tag_of p.kind.algo)) refl,
      kind_and_rest-of p.kind t.width t.gap (inner_of t) t.is_width,
      opened-at t.gap (inner_of t),
      rsplit-at 41 p.text (t.blanks_before ++ (61 ∷ value)) last,
      (parts-at is_blank t.blanks_before 61 value t.are_before refl).1,
      rest-hex t.blanks_after t.digits t.are_after digits,
      t.spelled,
      eq-eqb (length p.digest) p.kind.len t.size,
      lt-ltb 0 (length p.text) t.some,
    ) refl
