-- A line without a carriage return, neither as a byte nor in its name, says now what it said to older versions.
use Rattle.std.proofs.Common.{rules, arith, ◌≡◌, ◌≢◌, ◌<◌, ◌==◌, ℕ, Bool, List, [], ◌∷◌, ◌++◌, length, refl, sym, inl}
use Rattle.std.proofs.Common.{inr, subst, codes, append_assoc, if◌then◌else◌}
use Rattle.std.proofs.lemmas.List.Elements.{All-nil, All-cons, All-head, All-tail, All-take, All-drop}
use Rattle.std.{proofs.lemmas.List.take_at, proofs.lemmas.List.drop_at, proofs.lemmas.Bool.Decides.nat_tests}
use Rattle.std.{specs.List.starts_with}
use Rattle.digest_kinds.specs.{Algo.tag_of, Kind.KindValue, declared.algo.Algos.Algos}
use Rattle.sum_lines.{proofs.EntryLemmas.entry_by, proofs.ParsedLineLemmas.parse_is_grammar, specs.Escape.escape}
use Rattle.sum_lines.{specs.declared.reading.read_line.Form.Form, specs.grammar.Entries.EntryValue}
use Rattle.sum_lines.specs.grammar.{Entries.is_ignored, Entries.IsRawName, Entries.IsEntry, ParsedLines.ParsedLine}
use Rattle.sum_lines.specs.grammar.{ParsedLines.ignored, ParsedLines.bad, ParsedLines.entry, ParsedLines.parse_line}
use Rattle.sum_lines.specs.grammar.{Shapes.IsPlain, Shapes.IsTagged, Shapes.backslash_if}
use Rattle.sum_lines.specs.declared.reading.read_line.Form.TheVariants.{Undecided, Standard, Reversed}
use Rattle.sum_engine.{proofs.CarriageReturnLemmas.IsNoCarriageReturn}
use Rattle.sum_engine.specs.Laws.{older_escape, SaidOnce, HasNoCarriageReturn, NamesNoCarriageReturn}

-- ---- bytes without a carriage return

-- neither part of them has one
pub parts_clean : (xs ys : List ℕ) → HasNoCarriageReturn (xs ++ ys) → HasNoCarriageReturn xs × HasNoCarriageReturn ys
parts_clean xs ys h = (
  subst HasNoCarriageReturn (take_at xs ys _ refl) (All-take IsNoCarriageReturn (length xs) (xs ++ ys) h),
  subst HasNoCarriageReturn (drop_at xs ys _ refl) (All-drop IsNoCarriageReturn (length xs) (xs ++ ys) h),
)

-- nor has a part between others
part_clean : (front part rest line : List ℕ) → line ≡ front ++ (part ++ rest) → HasNoCarriageReturn line
    → HasNoCarriageReturn part
part_clean front part rest line is free =
    (parts_clean part rest (parts_clean front (part ++ rest) (subst HasNoCarriageReturn is free)).1).0

-- ---- the escape

-- the older escape of a byte
abbrev older_of : ℕ → List ℕ
older_of b = if b == 92 then codes "\\\\" else if b == 10 then codes "\\n" else b ∷ []

-- a name without a carriage return has the same escape now as it once had
pub same_escape : (name : List ℕ) → HasNoCarriageReturn name → older_escape name ≡ escape name
same_escape [] free = refl
same_escape (b ∷ bs) free =
    let one = All-head IsNoCarriageReturn b bs free in
    grind (arith, nat_tests, same_escape bs (All-tail IsNoCarriageReturn b bs free))

-- ---- names

-- a name whose older escape has no carriage return has none
older_clean : (name : List ℕ) → HasNoCarriageReturn (older_escape name) → HasNoCarriageReturn name
older_clean [] free = All-nil IsNoCarriageReturn
older_clean (b ∷ bs) free =
    let (here, rest) = parts_clean (older_of b) (older_escape bs) free in
    All-cons IsNoCarriageReturn b bs (first b here) (older_clean bs rest)
  where
    -- neither has the byte at its front
    first : (b : ℕ) → HasNoCarriageReturn (older_of b) → b ≢ 13
    first b all = λ is. All-head IsNoCarriageReturn 13 [] (rw is at all) refl

-- a name that bytes without a carriage return spell by the older escape has none
older_name : (e : Bool) (raw name : List ℕ) → HasNoCarriageReturn raw
    → raw ≡ (if e then older_escape name else name) → HasNoCarriageReturn name
older_name e raw name free is = grind (arith, older_clean)

-- ---- the raw name

-- the raw name in a tail without a carriage return has none
raw_clean : (f : Form) (tail raw : List ℕ) → HasNoCarriageReturn tail → IsRawName f tail raw → HasNoCarriageReturn raw
raw_clean Undecided tail raw h is = absurd is
raw_clean Reversed tail raw h is = subst HasNoCarriageReturn (sym is) h
raw_clean Standard tail raw h is = All-tail IsNoCarriageReturn is.1 raw (subst HasNoCarriageReturn is.2 h)

-- the raw name in a tagged line without a carriage return has none
tag_clean : {algos : Algos} {line : List ℕ} {e : Bool} {kind : KindValue} {d raw : List ℕ} → HasNoCarriageReturn line
    → IsTagged algos line e kind d raw → HasNoCarriageReturn raw
tag_clean {line = line} {e} {kind} {raw = raw} free p =
    let front = p.blanks ++ (backslash_if e
    ++ (tag_of kind.algo ++ (p.width ++ (if p.gap then codes " (" else codes "(")))) in
    let rest = codes ")" ++ (p.blanks_before ++ (codes "=" ++ (p.blanks_after ++ p.digits))) in
    part_clean front raw rest line (search (rules, p.whole, append_assoc)) free

-- the tail of a plain line without a carriage return has none
tail_clean : {algos : Algos} {line : List ℕ} {e : Bool} {kind : KindValue} {d tail : List ℕ} → HasNoCarriageReturn line
    → IsPlain algos line e kind d tail → HasNoCarriageReturn tail
tail_clean {line = line} {e} {tail = tail} free p =
    let front = p.blanks ++ (backslash_if e ++ (p.digits ++ p.blank ∷ [])) in
    part_clean front tail [] line (search (rules, p.whole, append_assoc)) free

-- ---- the entry

-- an older entry of a line without a carriage return has a name without one, since the raw name has none
older_entry : (algos : Algos) (f : Form) (line : List ℕ) (s : EntryValue) → HasNoCarriageReturn line
    → IsEntry older_escape algos f line s → HasNoCarriageReturn s.name
older_entry algos f line s free e = older_name e.escaped e.raw s.name (elim e.shape [
  | inl t ↦ tag_clean free t
  | inr t ↦ raw_clean f t.0 e.raw (tail_clean free t.1) t.2
]) e.spells

-- ---- what a line says

-- what a line says names no carriage return
abbrev pub CleanParsedLine : ParsedLine → Type 0
CleanParsedLine ignored = Unit {0}
CleanParsedLine bad = Unit {0}
CleanParsedLine (entry s) = HasNoCarriageReturn s.name

-- what a line says names none, if no entry of it does
pub says_clean : (algos : Algos) (f : Form) (line : List ℕ) → NamesNoCarriageReturn algos f line
    → CleanParsedLine (parse_line algos f line)
says_clean algos f line names = go (parse_line algos f line) refl
  where
    -- by what it says
    go : (x : ParsedLine) → parse_line algos f line ≡ x → CleanParsedLine x
    go ignored h = tt
    go bad h = tt
    go (entry s) h = names s (((parse_is_grammar algos f line).when_entry s).0 h)

-- a line that isn't empty was ignored if it is now
was_ignored : (line : List ℕ) → 0 < length line → starts_with ◌==◌ line (codes "#") ≡ is_ignored line
was_ignored line some = grind arith

-- a line without one, in which no name has one, said to older versions what it says now
pub said_once : (algos : Algos) (f : Form) (line : List ℕ) → HasNoCarriageReturn line
    → NamesNoCarriageReturn algos f line → 0 < length line → SaidOnce algos f line (parse_line algos f line)
said_once algos f line free names some =
    let is = parse_is_grammar algos f line in
    record {
      when_ignored = rw (was_ignored line some) is.when_ignored;
      when_entry = λ s. (
        λ h. let e = (is.when_entry s).0 h in
            entry_by escape older_escape algos f line s (sym (same_escape s.name (names s e))) e,
        λ e. (is.when_entry s).1 (entry_by older_escape escape algos f line s
            (same_escape s.name (older_entry algos f line s free e)) e),
      );
    }

-- a line said only one thing
pub said_one : {algos : Algos} {f : Form} {line : List ℕ} (x y : ParsedLine) → SaidOnce algos f line x
    → SaidOnce algos f line y → x ≡ y
said_one ignored y h k = sym (k.when_ignored.1 (h.when_ignored.0 refl))
said_one (entry s) y h k = sym ((k.when_entry s).1 ((h.when_entry s).0 refl))
said_one bad ignored h k = h.when_ignored.1 (k.when_ignored.0 refl)
said_one bad bad h k = refl
said_one bad (entry s) h k = (h.when_entry s).1 ((k.when_entry s).0 refl)
