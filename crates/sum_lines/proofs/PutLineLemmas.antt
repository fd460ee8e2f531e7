-- A line that is written is read back. It has a shape, which spells the name and the digest that it was written for. It
-- has no newline and no carriage return before its end.
use Rattle.std.specs.Str.{byte}
use Rattle.std.proofs.Common.{ℕ, ◌≡◌, ◌*◌, not, cond, Bool, true, false, ◌==◌, ◌||◌, List, [], ◌∷◌, ◌++◌, refl, ◌⊎◌}
use Rattle.std.proofs.Common.{inl, inr, append_assoc, arith, decimal}
use Rattle.std.proofs.lemmas.{Grind.common_steps, List.append-nil, List.Folds.list_all-append}
use Rattle.std.proofs.lemmas.{List.Sums.list_all-from_AllPass, Slice.Eq.bytes_eq-Decides}
use Rattle.std.specs.{Char.is_ascii_digit, List.AllPass, List.list_all}
use Rattle.hex.{proofs.HexLemmas.decode_of-encode_lower, specs.Hex.encode_lower, specs.Hex.is_hex_digit}
use Rattle.digest_kinds.proofs.{BitsLemmas.decimal-digits, KindLemmas.has_len-range, PrefixLemmas.none_of}
use Rattle.digest_kinds.specs.{Algo.tag_of, Kind.KindValue, KindText.IsWidth, declared.algo.Algo.TheVariants.Blake2b}
use Rattle.digest_kinds.specs.{declared.algo.Algos.Algos, declared.algo.Algos.TheVariants.One}
use Rattle.sum_settings.specs.declared.style.Mode.{Mode}
use Rattle.sum_lines.specs.grammar.{LineLaws.IsWritable, LineLaws.SpellsBack, LineLaws.IsReadBack, Shapes.backslash_if}
use Rattle.sum_lines.specs.grammar.{Shapes.Allows, Shapes.IsPlain, Shapes.IsTagged, Form.Form, Form.Undecided}
use Rattle.sum_lines.specs.grammar.{Form.Standard, Form.begins_standard, Form.line_form, Form.form_of}
use Rattle.sum_lines.proofs.PlainLemmas.{one_shape, digits-of, plain_is_read, read_is_plain}
use Rattle.sum_lines.{proofs.ParsedLineLemmas.one_entry, specs.grammar.LineParts.plain_parts, specs.Escape.escape}
use Rattle.sum_lines.{specs.Escape.escape_differs, specs.grammar.Entries.IsEntry, proofs.EntryLemmas.form_at}
use Rattle.sum_lines.{proofs.EscapeLemmas.length-escape}
use Rattle.sum_lines.specs.writing.PutLine as lines

-- a line that ends with a newline, without it
abbrev pub prefix_of : Mode → KindValue → List ℕ → List ℕ → List ℕ
prefix_of mode kind name digest =
    backslash_if (escape_differs name) ++ lines.layout mode kind (escape name) (encode_lower digest)

-- ---- bytes within a line

-- whether a byte may be within a line
abbrev inline : ℕ → Bool
inline b = not (b == 10 || b == 13)

-- bytes that pass a test which a newline and a carriage return fail may be within a line
inline-all : (test : ℕ → Bool) (xs : List ℕ) → test 10 ≡ false → test 13 ≡ false → AllPass test xs
    → list_all inline xs ≡ true
inline-all test xs ten thirteen all = grind (arith, list_all-from_AllPass)

-- what comes between the tag and the name may be within a line
inline-width : (kind : KindValue) (w : List ℕ) → IsWidth kind w → list_all inline w ≡ true
inline-width kind w (inl none) = rw none.0 refl
inline-width kind w (inr bits) =
    let digits = decimal-digits kind.len (has_len-range Blake2b kind.len bits.2).1 in
    rw bits.0 (inline-all is_ascii_digit (decimal (8 * kind.len)) refl refl digits)

-- an escaped name may be within a line
inline-escape : (name : List ℕ) → list_all inline (escape name) ≡ true
inline-escape [] = refl
inline-escape (x ∷ xs) = grind (arith, list_all-append, inline-escape xs)

-- ---- the form after a written line

-- the forms of lines after which written lines are read back
abbrev IsReadable : Form → Type 0
IsReadable f = (f ≡ Undecided) ⊎ (f ≡ Standard)

-- ---- the law

module _ {kind : KindValue} {name digest : List ℕ} (before later : List (List ℕ)) (w : IsWritable kind name digest)
  where
    -- a line with an entry is read back, since a line spells at most one
    back : (algos : Algos) (prefix : List ℕ) → list_all inline prefix ≡ true
        → IsEntry escape algos (form_of algos (before ++ (prefix ∷ later))) prefix
        (record { kind = kind; digest = digest; name = name })
        → IsReadable (form_of algos (before ++ (prefix ∷ [])))
        → SpellsBack algos before later (prefix ++ (byte "\n" ∷ [])) kind name digest
    back algos prefix one has keeps = record {
      prefix = prefix;
      whole = refl;
      one_line = grind (arith, common_steps);
      spells = λ t. (λ e. one_entry algos _ prefix t _ e has, λ same. rw same has);
      keeps = keeps;
    }

    -- what is written spells the name: its escape or, if that doesn't differ, the name
    name-spelled : escape name ≡ cond (escape_differs name) (escape name) name
    name-spelled = grind (arith, bytes_eq-Decides)

    -- the digits of a written line may be within a line
    inline-digits : list_all inline (encode_lower digest) ≡ true
    inline-digits =
        let digits = digits-of (encode_lower digest) digest (decode_of-encode_lower digest w.bytes)
        (omega (arith, has_len-range kind.algo kind.len w.has)) in
        inline-all is_hex_digit (encode_lower digest) refl refl digits.are

    -- a plain line is read back: x is the byte before the name
    plain-back : (x : ℕ) → (x == 32 || x == 42) ≡ true → IsReadable (form_of (One kind.algo) before)
        → SpellsBack (One kind.algo) before later
        ((backslash_if (escape_differs name) ++ (encode_lower digest ++ (32 ∷ x ∷ escape name))) ++ (byte "\n" ∷ []))
        kind name digest
    plain-back x star readable =
        let line = backslash_if (escape_differs name) ++ (encode_lower digest ++ (32 ∷ x ∷ escape name)) in
        let one : list_all inline line ≡ true = grind (arith, list_all-append, inline-digits, inline-escape) in
        let shape : IsPlain (One kind.algo) line (escape_differs name) kind digest
        (x ∷ escape name) = record {
          blanks = [];
          digits = encode_lower digest;
          blank = 32;
          one = refl;
          has = w.has;
          are_blanks = grind arith;
          spelled = decode_of-encode_lower digest w.bytes;
          size = w.size;
          is_one_blank = refl;
          some = omega arith;
          whole = refl;
        } in
        let standard : begins_standard (x ∷ escape name) ≡ true = let some = w.some in grind (arith, length-escape) in
        let own : line_form (One kind.algo) line ≡ Standard = rw (plain_is_read _ shape, standard) refl in
        let after : (others : List (List ℕ)) → form_of (One kind.algo) (before ++ (line ∷ others)) ≡ Standard =
        λ others. grind (arith, form_at) in
        back (One kind.algo) line one (rw (after later) (record {
          escaped = escape_differs name;
          raw = escape name;
          shape = inr (x ∷ escape name, shape, (standard, x, refl));
          no_nul = w.no_nul;
          spells = name-spelled;
        })) (inr (after []))

    -- a tagged line is read back
    tagged-back : (algos : Algos) (width : List ℕ) → Allows algos kind.algo → IsWidth kind width
        → IsReadable (form_of algos before)
        → SpellsBack algos before later ((backslash_if (escape_differs name)
        ++ (tag_of kind.algo ++ (width ++ (32 ∷ 40 ∷ (escape name ++ (41 ∷ 32 ∷ 61 ∷ 32 ∷ encode_lower digest))))))
        ++ (byte "\n" ∷ [])) kind name digest
    tagged-back algos width allowed is_width readable =
        let line = backslash_if (escape_differs name)
        ++ (tag_of kind.algo ++ (width ++ (32 ∷ 40 ∷ (escape name ++ (41 ∷ 32 ∷ 61 ∷ 32 ∷ encode_lower digest))))) in
        let shape : IsTagged algos line (escape_differs name) kind digest (escape name) = record {
          blanks = [];
          width = width;
          gap = true;
          blanks_before = 32 ∷ [];
          blanks_after = 32 ∷ [];
          digits = encode_lower digest;
          allowed = allowed;
          are_blanks = grind arith;
          is_width = is_width;
          some = omega (arith, w.some, length-escape name);
          are_before = grind arith;
          are_after = grind arith;
          spelled = decode_of-encode_lower digest w.bytes;
          size = w.size;
          whole = refl;
        } in
        let other = none_of (plain_parts algos line) (λ p h. one_shape (read_is_plain h) shape) in
        back algos line (grind (arith, list_all-append, inline-width, inline-escape, inline-digits)) (record {
          escaped = escape_differs name;
          raw = escape name;
          shape = inl shape;
          no_nul = w.no_nul;
          spells = name-spelled;
        }) (grind (arith, form_at))

-- each of the three layouts is read back
pub read_back : IsReadBack
read_back = grind (arith, append-nil, plain-back, append_assoc, tagged-back)
