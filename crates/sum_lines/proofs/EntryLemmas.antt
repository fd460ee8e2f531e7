-- The one form of a list of lines, and what later lines change of it: neither how a line parses nor the form after a
-- plain line.
use Rattle.std.proofs.Common.{ℕ, ◌≡◌, Bool, true, false, List, [], ◌∷◌, ◌++◌, Option, None, Some, refl, sym, ◌∙◌, inl}
use Rattle.std.proofs.Common.{inr, arith, rules}
use Rattle.std.{proofs.lemmas.Grind.common_steps, specs.List.AllPass}
use Rattle.digest_kinds.{proofs.PrefixLemmas.none_of, specs.Kind.KindValue, specs.declared.algo.Algos.Algos}
use Rattle.sum_lines.proofs.{PlainLemmas.plain-digits, PlainLemmas.plain_is_read, PlainLemmas.read_is_plain}
use Rattle.sum_lines.proofs.{TaggedLemmas.BeginsText}
use Rattle.sum_lines.specs.grammar.{Entries.EntryValue, Entries.is_ignored, Entries.IsEntry, Form.Form, Form.Undecided}
use Rattle.sum_lines.specs.grammar.{Form.IsForm}
use Rattle.sum_lines.specs.grammar.{Form.form_then, Form.line_form, Form.form_of, LineLaws.HasOneForm}
use Rattle.sum_lines.specs.grammar.{LineParts.LinePartsValue, LineParts.plain_parts, ParsedLines.entry_of}
use Rattle.sum_lines.specs.grammar.{ParsedLines.parse_line, Shapes.is_blank, Shapes.backslash_if, Shapes.IsPlain}

-- a line of either shape isn't ignored
not_ignored : (blanks : List ℕ) (e : Bool) (xs rest : List ℕ) → AllPass is_blank blanks → BeginsText xs
    → is_ignored (blanks ++ (backslash_if e ++ (xs ++ rest))) ≡ false
not_ignored blanks e xs rest all b = grind (arith, common_steps)

-- a plain line isn't ignored
pub plain-not_ignored : {algos : Algos} {line : List ℕ} {e : Bool} {kind : KindValue} {d tail : List ℕ}
    → IsPlain algos line e kind d tail → is_ignored line ≡ false
plain-not_ignored plain = let digits = plain-digits plain in grind (arith, not_ignored)

-- no line that spells an entry is ignored
pub entry-not_ignored : {escape : List ℕ → List ℕ} {algos : Algos} {f : Form} {line : List ℕ} {s : EntryValue}
    → IsEntry escape algos f line s → is_ignored line ≡ false
entry-not_ignored e = elim e.shape [
  | inl t ↦ grind (arith, not_ignored)
  | inr t ↦ plain-not_ignored t.1
]

-- an entry by one escape is an entry by another that gives its name the same escape
pub entry_by : (E F : List ℕ → List ℕ) (algos : Algos) (f : Form) (line : List ℕ) (s : EntryValue) → E s.name ≡ F s.name
    → IsEntry E algos f line s → IsEntry F algos f line s
entry_by E F algos f line s same h = search rules

-- an ignored line is not plain, and has no form
pub ignored_undecided : (algos : Algos) (line : List ℕ) → is_ignored line ≡ true → line_form algos line ≡ Undecided
ignored_undecided algos line ignored =
    rw (← none_of (plain_parts algos line) (λ p h. cc (plain-not_ignored (read_is_plain h)))) refl

-- the computed form is one that the list has
is-form : (algos : Algos) (lines : List (List ℕ)) → IsForm algos lines (form_of algos lines)
is-form algos [] = refl
is-form algos (line ∷ later) = go (plain_parts algos line) refl (is-form algos later)
  where
    go : (o : Option LinePartsValue) → plain_parts algos line ≡ o → IsForm algos later (form_of algos later)
        → IsForm algos (line ∷ later) (form_of algos (line ∷ later))
    go None h own = rw h (inr (λ e kind d tail plain. let wrong = sym h ∙ plain_is_read _ plain in cc, own))
    go (Some p) h own = rw h (inl (p.escaped, p.kind, p.digest, p.text, read_is_plain h, refl))

-- a form that the list has is the computed one
form-is : (algos : Algos) (lines : List (List ℕ)) (f : Form) → IsForm algos lines f → f ≡ form_of algos lines
form-is algos [] f h = h
form-is algos (line ∷ later) f (inl h) =
    rw (plain_is_read (record { escaped = h.0; kind = h.1; digest = h.2; text = h.3 }) h.4) h.5
form-is algos (line ∷ later) f (inr h) =
    rw (← none_of (plain_parts algos line) (λ p read. h.0 _ _ _ _ (read_is_plain read))) (form-is algos later f h.1)

-- a list of lines has the computed form, and no other
pub one_form : HasOneForm
one_form algos lines f = (form-is algos lines f, λ e. rw e (is-form algos lines))

-- ---- lines after lines

-- the form of two lists joined: that of the first, then that of the second
form-append : (algos : Algos) (before after : List (List ℕ))
    → form_of algos (before ++ after) ≡ form_then (form_of algos before) (form_of algos after)
form-append algos [] after = refl
form-append algos (line ∷ before) after = grind (arith, form-append algos before after)

-- the form after more lines is that so far, then that of the next line, then that of the later ones
pub form_next : (algos : Algos) (f : Form) (line : List ℕ) (later : List (List ℕ))
    → form_then f (form_of algos (line ∷ later)) ≡ form_then (form_then f (line_form algos line)) (form_of algos later)
form_next algos f line later = grind arith

-- the form of all lines, from the lines before one, that line, and the later ones
pub form_at : (algos : Algos) (before later : List (List ℕ)) (line : List ℕ) → form_of algos (before ++ (line ∷ later))
    ≡ form_then (form_then (form_of algos before) (line_form algos line)) (form_of algos later)
form_at algos before later line = grind (arith, form-append)

-- no later line changes how a line parses
pub parse_stays : (algos : Algos) (f g : Form) (line : List ℕ)
    → parse_line algos (form_then (form_then f (line_form algos line)) g) line
    ≡ parse_line algos (form_then f (line_form algos line)) line
unfolding entry_of
parse_stays algos f g line = grind arith

-- how a line parses stays if later lines are others
pub same_parse : (algos : Algos) (before later others : List (List ℕ)) (line : List ℕ)
    → parse_line algos (form_of algos (before ++ (line ∷ later))) line
    ≡ parse_line algos (form_of algos (before ++ (line ∷ others))) line
same_parse algos before later others line = grind (arith, form_at, parse_stays)

-- no later line changes the form after a plain line
pub same_form : (algos : Algos) (before later others : List (List ℕ)) (line : List ℕ) (e : Bool) (kind : KindValue)
    (d tail : List ℕ) → IsPlain algos line e kind d tail
    → form_of algos (before ++ (line ∷ later)) ≡ form_of algos (before ++ (line ∷ others))
same_form algos before later others line e kind d tail plain =
    let read = plain_is_read (record { escaped = e; kind = kind; digest = d; text = tail }) plain in
    grind (arith, form_at)
