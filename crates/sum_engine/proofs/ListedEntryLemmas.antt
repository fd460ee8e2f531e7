-- A manifest of lines that were written for whole files: each line is read back.
use Rattle.std.specs.Str.{byte}
use Rattle.digest_kinds.specs.Bytes.{LIMIT}
use Rattle.std.proofs.Common.{rules, ◌≡◌, ◌≢◌, ℕ, ◌<◌, false, List, [], ◌∷◌, ◌++◌, length, map, refl, ap, sym, ◌∙◌}
use Rattle.std.proofs.Common.{subst, ◌⊎◌, inl, IsTrue, flat_map, All, Ok}
use Rattle.std.proofs.lemmas.{Bool.ne_eqb, List.append-nil, List.append_cancel_right, List.Elements.All-nil}
use Rattle.std.proofs.lemmas.{List.Elements.All-map, List.Elements.All-weaker}
use Rattle.std.specs.{Char.is_newline, Str.Lines.strip_carriage_return}
use Rattle.digest_kinds.{proofs.DigestLemmas.length-digest, proofs.DigestLemmas.IsBytes-digest, specs.Algo.has_len}
use Rattle.digest_kinds.{specs.Kind.KindValue, specs.Kind.message_digest, specs.declared.algo.Algos.Algos}
use Rattle.sum_lines.{proofs.PutLineLemmas.prefix_of, proofs.PutLineLemmas.read_back}
use Rattle.sum_lines.{specs.declared.reading.read_line.Form.TheVariants.Undecided}
use Rattle.sum_lines.specs.{declared.reading.read_line.Form.TheVariants.Standard, grammar.Entries.EntryValue}
use Rattle.sum_lines.specs.{grammar.Entries.IsEntry, Escape.escape, grammar.Form.form_of, grammar.LineLaws.AllowsMode}
use Rattle.sum_lines.specs.writing.PutLine.{digest_line}
use Rattle.sum_settings.specs.declared.style.Mode.{Mode}
use Rattle.sum_sources.proofs.CutLemmas.{raw_lines-joined}
use Rattle.sum_sources.specs.{declared.fault.Ending.TheVariants.Whole, inputs.Input.Content, sources.Source.AnswerValue}
use Rattle.sum_sources.specs.{sources.WithStdin.is_dash}
use Rattle.sum_sources.specs.LineReader.{HasNoNewline, lines_in, raw_lines}
use Rattle.sum_engine.{proofs.CarriageReturnLemmas.strips-kept}
use Rattle.sum_engine.specs.Laws.{HasNoCarriageReturn}

-- ---- what is written

-- a name whose line is written: its form, its kind, and the bytes of its file
pub record Item : Type 0 where
  pub mode : Mode
  pub kind : KindValue
  pub name : List ℕ
  pub bytes : List ℕ

-- an item's line, with the newline
abbrev pub written_text : Item → List ℕ
written_text i = digest_line (record { mode = i.mode; zero = false }) i.kind i.name (message_digest i.kind i.bytes)

-- an item's line is read back, and its file still has these bytes
pub record Listed (algos : Algos) (answer : List ℕ → AnswerValue) (i : Item) : Type 0 where
  pub read_by : AllowsMode algos i.mode i.kind.algo
  pub has : IsTrue (has_len i.kind.algo i.kind.len)
  pub some : 0 < length i.name
  pub no_nul : All (λ b. 0 < b) i.name
  pub no_dash : is_dash i.name ≡ false
  pub content : answer i.name ≡ Ok (record { bytes = i.bytes; ending = Whole })
  pub fits : length i.bytes < LIMIT

-- the line without its newline
abbrev pub prefix : Item → List ℕ
prefix i = prefix_of i.mode i.kind i.name (message_digest i.kind i.bytes)

-- what the line spells
abbrev pub spelled_for : Item → EntryValue
spelled_for i = record { kind = i.kind; digest = message_digest i.kind i.bytes; name = i.name }

-- ---- each line is read back

-- the form of these lines is Undecided or Standard
abbrev pub ReadableSoFar : Algos → List (List ℕ) → Type 0
ReadableSoFar algos ls = (form_of algos ls ≡ Undecided) ⊎ (form_of algos ls ≡ Standard)

-- no byte of a line is a newline or a carriage return
abbrev pub Plainly : List ℕ → Type 0
Plainly l = All (λ b. (b ≢ 10) × (b ≢ 13)) l

-- a line between others is read as s, and the line after it can be read back, too
abbrev pub Back : Algos → List (List ℕ) → List (List ℕ) → EntryValue → List ℕ → Type 0
Back algos before later s l =
    Plainly l × IsEntry escape algos (form_of algos (before ++ (l ∷ later))) l s × ReadableSoFar algos
    (before ++ (l ∷ []))

-- the line of each item, between others, is read as its entry
pub back : (algos : Algos) (answer : List ℕ → AnswerValue) (before later : List (List ℕ)) (i : Item)
    → Listed algos answer i
    → ReadableSoFar algos before → Back algos before later (spelled_for i) (prefix i)
back algos answer before later i h u =
    let s = read_back algos i.mode i.kind i.name (message_digest i.kind i.bytes) before later h.read_by
    (search (rules, IsBytes-digest, length-digest)) u in
    let same : s.prefix ≡ prefix i =
    append_cancel_right s.prefix (prefix i) (byte "\n" ∷ []) (sym s.whole) in
    subst (Back algos before later (spelled_for i)) same (s.one_line, (s.spells (spelled_for i)).1 refl, s.keeps)

-- ---- the lines of the whole text

-- the text of several items is their lines, each with a newline
texts : (is : List Item) → flat_map written_text is ≡ flat_map (λ l. l ++ byte "\n" ∷ []) (map prefix is)
texts [] = refl
texts (i ∷ is) = ap (λ t. written_text i ++ t) (texts is)

-- the content of a file that holds the text of these items
abbrev pub whole : List Item → Content
whole is = record { bytes = flat_map written_text is; ending = Whole }

-- the lines of that content are the written ones
pub lines-are : (algos : Algos) (answer : List ℕ → AnswerValue) (is : List Item) → All (Listed algos answer) is
    → lines_in (whole is) ≡ map prefix is
lines-are algos answer is all =
    let one = λ (i : Item) (h : Listed algos answer i). (back algos answer [] [] i h (inl refl)).0 in
    let plain : All Plainly (map prefix is) =
    All-map Plainly prefix is (All-weaker (Listed algos answer) (λ i. Plainly (prefix i)) one is all) in
    let make : List ℕ → Content = λ bytes. record { bytes = bytes; ending = Whole } in
    let none = All-weaker Plainly HasNoNewline (λ l h k d lt. ne_eqb _ 10 (h k d lt).0) (map prefix is) plain in
    let cut = raw_lines-joined Whole (map prefix is) [] none (All-nil (λ b. is_newline b ≡ false)) in
    ap (map strip_carriage_return) (ap (λ b. raw_lines (make b)) (texts is ∙ sym (append-nil _)) ∙ cut
    ∙ append-nil (map prefix is))
    ∙ strips-kept (map prefix is)
    (All-weaker Plainly HasNoCarriageReturn (λ l h k d lt. (h k d lt).1) (map prefix is) plain)
