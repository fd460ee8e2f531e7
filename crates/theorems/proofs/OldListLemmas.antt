-- A list of one line, digits of a right length and then the name `a`, is from the time of older versions.
use Rattle.std.specs.Str.{byte}
use Rattle.std.proofs.Common.{arith, ◌≡◌, ◌≢◌, ◌<◌, ℕ, true, false, List, [], ◌∷◌, ◌++◌, length, Ok, refl, ap, sym, ◌∙◌}
use Rattle.std.proofs.Common.{inl, inr, subst, codes, All, append_assoc, append-nil, if◌then◌else◌, map}
use Rattle.std.proofs.lemmas.List.Elements.{All-nil, All-cons, All-weaker, All-append}
use Rattle.std.{specs.Prelude.IsTrue, specs.Char.is_newline, specs.List.AllPass, specs.Str.Lines.strip_carriage_return}
use Rattle.hex.{proofs.HexLemmas.decode_of-ok, specs.Hex.decode_of, specs.Hex.is_hex_digit}
use Rattle.digest_kinds.specs.{Algo.has_len, Kind.KindValue, declared.algo.Algos.TheVariants.One}
use Rattle.sum_lines.proofs.{EntryLemmas.one_form, ParsedLineLemmas.one_entry, ParsedLineLemmas.parse_is_grammar}
use Rattle.sum_lines.specs.{Escape.escape, grammar.Entries.EntryValue, grammar.Entries.IsEntry}
use Rattle.sum_lines.specs.{grammar.Entries.IsRawName, grammar.ParsedLines.entry, grammar.ParsedLines.parse_line}
use Rattle.sum_lines.specs.{grammar.Shapes.IsPlain, grammar.Shapes.is_blank}
use Rattle.sum_lines.specs.{declared.reading.read_line.Form.Form, declared.reading.read_line.Form.TheVariants.Standard}
use Rattle.sum_lines.specs.{declared.reading.read_line.Form.TheVariants.Reversed, grammar.Form.begins_standard}
use Rattle.sum_lines.specs.{grammar.Form.form_of}
use Rattle.sum_sources.{proofs.CutLemmas.raw_lines-joined, specs.declared.fault.Ending.TheVariants.Whole}
use Rattle.sum_sources.{specs.inputs.Input.Content}
use Rattle.sum_sources.specs.LineReader.{HasNoNewline, raw_lines, lines_in}
use Rattle.sum_engine.{proofs.CarriageReturnLemmas.strips-kept, specs.check.Judge.parsed_content}
use Rattle.sum_engine.{specs.check.Rules.LabelsValue, specs.declared.check.rules.CheckRules.CheckRules}
use Rattle.sum_engine.specs.Laws.{HasNoCarriageReturn, NamesNoCarriageReturn, IsOldManifest}

-- the byte is a hexadecimal digit
abbrev IsDigit : ℕ → Type 0
IsDigit b = is_hex_digit b ≡ true

-- the byte is no carriage return
abbrev IsNoReturn : ℕ → Type 0
IsNoReturn b = b ≢ 13

-- the byte is no newline
abbrev IsInLine : ℕ → Type 0
IsInLine b = is_newline b ≡ false

-- a digit is no carriage return
digit-no_return : (b : ℕ) → IsDigit b → IsNoReturn b
digit-no_return b h = grind arith

-- nor is it a newline
digit-no_newline : (b : ℕ) → IsDigit b → IsInLine b
digit-no_newline b h = grind arith

-- the name `a` has no carriage return
a-no_return : All IsNoReturn (97 ∷ [])
a-no_return = All-cons IsNoReturn 97 [] (λ h. cc) (All-nil IsNoReturn)

-- and no newline
a-no_newline : All IsInLine (97 ∷ [])
a-no_newline = All-cons IsInLine 97 [] refl (All-nil IsInLine)

-- the list of this one line, which a newline ends
abbrev pub list_of : List ℕ → Content
list_of line = record { bytes = line ++ byte "\n" ∷ []; ending = Whole }

-- that is its one line
lines_of : (line : List ℕ) → HasNoNewline line → raw_lines (list_of line) ≡ line ∷ []
lines_of line none =
    let joined = raw_lines-joined Whole (line ∷ []) [] (All-cons HasNoNewline line [] none (All-nil HasNoNewline))
    (All-nil IsInLine) in
    simp append-nil at joined

-- what is shown of a list: it is old, has this form, and says this
pub record IsOldList (rules : CheckRules) (labels : LabelsValue) (content : Content) (found : Form)
    (listed : EntryValue) : Type 0 where
  pub old : IsOldManifest rules labels content
  pub form : form_of rules.algo (lines_in content) ≡ found
  pub says : parsed_content rules.algo content ≡ entry listed ∷ []

module _ (rules : CheckRules) (labels : LabelsValue) (kind : KindValue) (digits digest : List ℕ)
    (one : rules.algo ≡ One kind.algo) (has : IsTrue (has_len kind.algo kind.len)) (size : length digest ≡ kind.len)
    (spelled : decode_of digits ≡ Ok digest) (own : HasNoCarriageReturn labels.manifest)
  where
    -- what such a line is to spell
    abbrev listed : EntryValue
    listed = record { kind = kind; digest = digest; name = codes "a" }

    -- the digits are digits
    are : AllPass is_hex_digit digits
    are = (decode_of-ok digits digest spelled).1

    -- the line with this tail is plain
    plain : (tail : List ℕ) → 0 < length tail → IsPlain rules.algo (digits ++ (32 ∷ tail)) false kind digest tail
    plain tail some = record {
      blanks = [];
      digits = digits;
      blank = 32;
      one = one;
      has = has;
      are_blanks = All-nil (λ b. is_blank b ≡ true);
      spelled = spelled;
      size = size;
      is_one_blank = refl;
      some = some;
      whole = refl;
    }

    -- if the raw name in it is `a`, the list is as `IsOldList` says
    by_tail : (tail : List ℕ) (found : Form) → 0 < length tail → All IsNoReturn tail → All IsInLine tail
        → found ≡ (if begins_standard tail then Standard else Reversed) → IsRawName found tail (codes "a")
        → IsOldList rules labels (list_of (digits ++ (32 ∷ tail))) found listed
    by_tail tail found some returns newlines is raw =
        let line = digits ++ (32 ∷ tail) in
        let none : HasNoNewline line = All-append IsInLine digits (32 ∷ tail)
        (All-weaker IsDigit IsInLine digit-no_newline digits are) (All-cons IsInLine 32 tail refl newlines) in
        let clean : HasNoCarriageReturn line = All-append IsNoReturn digits (32 ∷ tail)
        (All-weaker IsDigit IsNoReturn digit-no_return digits are) (All-cons IsNoReturn 32 tail (λ h. cc) returns) in
        let only = lines_of line none in
        let kept : lines_in (list_of line) ≡ line ∷ [] = ap (map strip_carriage_return) only
        ∙ strips-kept (line ∷ []) (All-cons HasNoCarriageReturn line [] clean (All-nil HasNoCarriageReturn)) in
        let form_is : form_of rules.algo (line ∷ []) ≡ found =
        sym ((one_form rules.algo (line ∷ []) found).0 (inl (false, kind, digest, tail, plain tail some, is))) in
        let spells : IsEntry escape rules.algo found line listed = record {
          escaped = false;
          raw = codes "a";
          shape = inr (tail, plain tail some, raw);
          no_nul = All-cons (λ b. 0 < b) 97 [] (search arith) (All-nil (λ b. 0 < b));
          spells = refl;
        } in
        let says : parse_line rules.algo found line ≡ entry listed =
        ((parse_is_grammar rules.algo found line).when_entry listed).1 spells in
        let names : NamesNoCarriageReturn rules.algo found line =
        λ other e. rw (one_entry rules.algo found line other listed e spells)
        a-no_return in record {
          old = record {
            own_name = own;
            no_byte = All-append IsNoReturn line (byte "\n" ∷ []) clean
                (All-cons IsNoReturn 10 [] (λ h. cc) (All-nil IsNoReturn));
            no_escape = rw (only, form_is) (All-cons (NamesNoCarriageReturn rules.algo found) line [] names
                (All-nil (NamesNoCarriageReturn rules.algo found)));
            no_empty = rw only (All-cons (λ line. 0 < length line) line [] (search (arith, rules))
                (All-nil (λ line. 0 < length line)));
          };
          form = rw kept form_is;
          says = rw (kept, form_is, says) refl;
        }

    -- the list of that line has these bytes
    list_is : (tail : List ℕ) (found : Form) → IsOldList rules labels (list_of (digits ++ (32 ∷ tail))) found listed
        → IsOldList rules labels (record {
          bytes = digits ++ (32 ∷ (tail ++ byte "\n" ∷ []));
          ending = Whole;
        }) found listed
    list_is tail found is =
        subst (λ bytes. IsOldList rules labels (record { bytes = bytes; ending = Whole }) found listed)
        (append_assoc digits (32 ∷ tail) (byte "\n" ∷ [])) is

    -- two spaces before the name
    pub standard_list :
        IsOldList rules labels (record { bytes = digits ++ codes "  a\n"; ending = Whole }) Standard listed
    standard_list = list_is (codes " a") Standard (by_tail (codes " a") Standard (search arith)
        (All-cons IsNoReturn 32 (97 ∷ []) (λ h. cc) a-no_return) (All-cons IsInLine 32 (97 ∷ []) refl a-no_newline)
        refl (refl, 32, refl))

    -- a single one
    pub reversed_list :
        IsOldList rules labels (record { bytes = digits ++ codes " a\n"; ending = Whole }) Reversed listed
    reversed_list = list_is (codes "a") Reversed
        (by_tail (codes "a") Reversed (search arith) a-no_return a-no_newline refl refl)
