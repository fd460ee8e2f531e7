-- How a line parses, as it is computed, is what the line grammar says of it.
use Rattle.std.proofs.Common.{◌≡◌, ◌↔◌, ℕ, false, List, Option, None, Some, refl, ap, sym, ◌∙◌, ◌⊎◌, inl, inr, arith}
use Rattle.std.{proofs.lemmas.Option.same_Some, specs.Option.option_or}
use Rattle.digest_kinds.{proofs.PrefixLemmas.bind_some, proofs.PrefixLemmas.none_of, specs.Bytes.◌>>=◌}
use Rattle.digest_kinds.{specs.declared.algo.Algos.Algos}
use Rattle.sum_lines.proofs.{EntryLemmas.entry-not_ignored, EscapeLemmas.spelled-is, EscapeLemmas.is-spelled}
use Rattle.sum_lines.proofs.{PlainLemmas.one_shape, PlainLemmas.plain_is_read, PlainLemmas.read_is_plain}
use Rattle.sum_lines.proofs.{TaggedLemmas.tagged_is_read, TaggedLemmas.read_is_tagged}
use Rattle.sum_lines.specs.Escape.{escape}
use Rattle.sum_lines.specs.grammar.{Entries.EntryValue, Entries.IsEntry, Entries.IsRawName, Entries.is_ignored}
use Rattle.sum_lines.specs.grammar.{Form.Form, LineLaws.HasOneEntry, LineLaws.FitsGrammar, LineLaws.ParsesByGrammar}
use Rattle.sum_lines.specs.grammar.{LineParts.LinePartsValue, LineParts.tagged_parts}
use Rattle.sum_lines.specs.grammar.{LineParts.plain_parts, ParsedLines.parts_with_raw_name, ParsedLines.entry_of_parts}
use Rattle.sum_lines.specs.grammar.{ParsedLines.entry_of, ParsedLines.ParsedLine, ParsedLines.bad}
use Rattle.sum_lines.specs.grammar.{ParsedLines.parse_line, Shapes.IsPlain, Shapes.IsTagged}

module _ (algos : Algos) (f : Form) (line : List ℕ) where
  -- ---- the entry that a line has is computed

  -- an entry by its tag or by its tail
  pub entry_value : (s : EntryValue) → IsEntry escape algos f line s → entry_of algos f line ≡ Some s
  unfolding entry_of
  entry_value s e =
      let q : LinePartsValue = record { escaped = e.escaped; kind = s.kind; digest = s.digest; text = e.raw } in
      let named = spelled-is q s.name e.no_nul e.spells in
      elim e.shape [
        | inl t ↦ rw (tagged_is_read q t) named
        | inr t ↦ let plain : LinePartsValue = record q { text = t.0 } in
            let raw = t.2 in
            rw (← none_of (tagged_parts algos line) (λ q h. one_shape t.1 (read_is_tagged h)), plain_is_read plain t.1)
            (grind arith)
      ]

  -- ---- the entry that is computed is the line's

  -- parts of a line's shape that have a raw name spell an entry of the line
  by-shape : (s : EntryValue) (t : LinePartsValue) → IsTagged algos line t.escaped t.kind t.digest t.text
      ⊎ ((tail : List ℕ) × IsPlain algos line t.escaped t.kind t.digest tail × IsRawName f tail t.text)
      → entry_of_parts t ≡ Some s → IsEntry escape algos f line s
  by-shape s t shape h = let name = is-spelled t s h in rw (← name.3)
      (record { escaped = t.escaped; raw = t.text; shape = shape; no_nul = name.1; spells = name.2 })

  -- what the parts spell, of a line that is found to be tagged or only plain, is an entry of the line
  by-parts : (s : EntryValue) (t q : Option LinePartsValue) → tagged_parts algos line ≡ t → plain_parts algos line ≡ q
      → option_or t (q >>= parts_with_raw_name f) >>= entry_of_parts ≡ Some s → IsEntry escape algos f line s
  by-parts s (Some t) q tagged plain h = by-shape s t (inl (read_is_tagged tagged)) h
  by-parts s None None tagged plain h = cc
  by-parts s None (Some q) tagged plain h =
      let named = bind_some (parts_with_raw_name f q) entry_of_parts h in
      let raw : IsRawName f q.text named.0.text × (record q { text = named.0.text } ≡ named.0) = grind arith in
      by-shape s (record q { text = named.0.text }) (inr (q.text, read_is_plain plain, raw.0))
      (ap entry_of_parts raw.1 ∙ named.2)

  -- the computed entry is an entry of the line
  pub value_entry : (s : EntryValue) → entry_of algos f line ≡ Some s → IsEntry escape algos f line s
  unfolding entry_of
  value_entry s h = by-parts s (tagged_parts algos line) (plain_parts algos line) refl refl h

-- a line has at most one entry
pub one_entry : HasOneEntry
one_entry algos f line s t p q =
    same_Some s t (sym (entry_value algos f line s p) ∙ entry_value algos f line t q)

-- ---- what a line says

-- what is computed is what the grammar says
pub parse_is_grammar : ParsesByGrammar
parse_is_grammar algos f line =
    let found = entry_of algos f line in
    record {
      when_ignored = (λ h. grind arith, λ h. rw h refl);
      when_entry = λ s. (
        λ h. value_entry algos f line s (grind arith),
        λ h. rw (entry-not_ignored h, entry_value algos f line s h) refl,
      );
    }

-- what equals the computed parse fits the grammar
pub matches : {algos : Algos} {f : Form} {line : List ℕ} {said : ParsedLine}
    → said ≡ parse_line algos f line → FitsGrammar algos f line said
matches {algos} {f} {line} h = rw h (parse_is_grammar algos f line)

-- a line is bad if and only if it is neither ignored nor an entry
pub bad_exactly : (algos : Algos) (f : Form) (line : List ℕ) → (parse_line algos f line ≡ bad)
    ↔ ((is_ignored line ≡ false) × ((s : EntryValue) → ¬ IsEntry escape algos f line s))
bad_exactly algos f line =
    let found = entry_of algos f line in (
      λ h. let said : (is_ignored line ≡ false) × (found ≡ None) = grind arith in
          (said.0, λ s e. let wrong = sym said.1 ∙ entry_value algos f line s e in cc),
      λ h. rw (h.0, ← none_of found (λ s e. h.1 s (value_entry algos f line s e))) refl,
    )
