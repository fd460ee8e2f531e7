-- `old_verdicts`: a manifest of the time of older versions is checked as they checked it.
use Rattle.std.specs.Str.{byte}
use Rattle.std.proofs.Common.{rules, ◌≡◌, ◌∙◌, ℕ, ◌+◌, ◌<◌, List, [], ◌∷◌, ◌++◌, length, refl, ap, sym, subst}
use Rattle.std.proofs.Common.{append_assoc, flat_map, All, map, ◌↔◌}
use Rattle.std.proofs.lemmas.List.Elements.{All-nil, All-cons, All-head, All-tail}
use Rattle.digest_kinds.specs.declared.algo.Algos.{Algos}
use Rattle.sum_lines.{proofs.EntryLemmas.entry-not_ignored, specs.declared.reading.read_line.Form.Form}
use Rattle.sum_lines.{specs.grammar.Form.form_of}
use Rattle.sum_lines.specs.grammar.ParsedLines.{ParsedLine, ignored, bad, entry, parse_line}
use Rattle.sum_sources.{proofs.CutLemmas.bytes_of_lines, proofs.CutLemmas.cut, proofs.CutLemmas.raw_lines-joined}
use Rattle.sum_sources.{specs.declared.fault.Ending.Ending}
use Rattle.sum_sources.specs.LineReader.{raw_lines, last_line}
use Rattle.sum_engine.specs.Laws.{older_behavior, SaidOnce, EachSaidOnce, ContentSaidOnce, HasNoCarriageReturn}
use Rattle.sum_engine.specs.Laws.{NamesNoCarriageReturn, OldVerdicts, OlderDiffers}
use Rattle.sum_engine.proofs.{CarriageReturnLemmas.strips-kept, OldNames.parts_clean, OldNames.CleanParsedLine}
use Rattle.sum_engine.proofs.{OldNames.says_clean, OldNames.said_once, OldNames.said_one, OldTexts.CleanName}
use Rattle.sum_engine.proofs.{OldTexts.behavior_same}
use Rattle.sum_engine.specs.{check.Rules.CheckRules, Behavior.World, Behavior.world_after, check.Judge.line_verdict}
use Rattle.sum_engine.specs.{check.Judge.names_in_line, check.Judge.verdicts_of, check.Judge.parsed_content}
use Rattle.sum_engine.specs.{check.Judge.all_verdicts}

-- ---- the lines

-- no line of a text without one has one
ended_clean : (e : Ending) (ended : List (List ℕ)) (tail : List ℕ) → HasNoCarriageReturn (bytes_of_lines ended tail)
    → All HasNoCarriageReturn (ended ++ last_line e tail)
ended_clean e [] tail free = search rules
ended_clean e (p ∷ ps) tail free =
    let whole : HasNoCarriageReturn ((p ++ byte "\n" ∷ []) ++ bytes_of_lines ps tail) =
    subst HasNoCarriageReturn (append_assoc (p ++ byte "\n" ∷ [])
    (flat_map (λ piece. piece ++ byte "\n" ∷ []) ps) tail) free in
    let (line, rest) = parts_clean (p ++ byte "\n" ∷ []) _ whole in
    All-cons HasNoCarriageReturn p (ps ++ last_line e tail) (parts_clean p _ line).0 (ended_clean e ps tail rest)

-- no line of a content without a carriage return has one
pieces_clean : (e : Ending) (bytes : List ℕ) → HasNoCarriageReturn bytes
    → All HasNoCarriageReturn (raw_lines (record { bytes = bytes; ending = e }))
pieces_clean e bytes free =
    let (ended, tail, is, none, plain) = cut bytes in
    rw (is, raw_lines-joined e ended tail none plain) (ended_clean e ended tail (rw is at free))

-- ---- what they said

-- a line says now what it said to older versions
pub record Alike (algos : Algos) (f : Form) (line : List ℕ) : Type 0 where
  pub no_byte : HasNoCarriageReturn line
  pub no_escape : NamesNoCarriageReturn algos f line
  pub some : 0 < length line

module _ (algos : Algos) (f : Form) where
  -- such lines said what they say
  each_said : (ls : List (List ℕ)) → All (Alike algos f) ls → EachSaidOnce algos f ls (map (parse_line algos f) ls)
  each_said [] all = tt
  each_said (l ∷ ls) all =
      let here = All-head (Alike algos f) l ls all in
      (said_once algos f l here.no_byte here.no_escape here.some, each_said ls (All-tail (Alike algos f) l ls all))

  -- and nothing else
  only_said : (ls : List (List ℕ)) (said : List ParsedLine) → All (Alike algos f) ls → EachSaidOnce algos f ls said
      → said ≡ map (parse_line algos f) ls
  only_said [] [] all h = refl
  only_said [] (x ∷ xs) all h = absurd h
  only_said (l ∷ ls) [] all h = absurd h
  only_said (l ∷ ls) (x ∷ xs) all h =
      let here = All-head (Alike algos f) l ls all in
      let one = said_one x (parse_line algos f l) h.0
      (said_once algos f l here.no_byte here.no_escape here.some) in
      rw (one, only_said ls xs (All-tail (Alike algos f) l ls all) h.1) refl

-- ---- the names of their verdicts

-- the verdict of a line that names none
line_clean : (r : CheckRules) (w : World) (n : ℕ) (x : ParsedLine) → CleanParsedLine x
    → CleanName (line_verdict r w n x)
line_clean r w n ignored h = search rules
line_clean r w n bad h = search rules
line_clean r w n (entry s) h = h

-- the verdicts of such lines
names_clean : (r : CheckRules) (f : Form) (w : World) (n : ℕ) (ls : List (List ℕ)) → All (Alike r.algo f) ls
    → All CleanName (verdicts_of r w n (map (parse_line r.algo f) ls))
names_clean r f w n [] all = All-nil CleanName
names_clean r f w n (l ∷ ls) all =
    let x = parse_line r.algo f l in
    let j = line_verdict r w (n + 1) x in
    let free = says_clean r.algo f l (All-head (Alike r.algo f) l ls all).no_escape in
    All-cons CleanName j _ (line_clean r w (n + 1) x free)
    (names_clean r f (world_after w (names_in_line j)) (n + 1) ls (All-tail (Alike r.algo f) l ls all))

-- ---- the laws

-- a manifest of the time of older versions is checked as they checked it
pub old_verdicts : OldVerdicts
old_verdicts r labels w c h =
    let f = form_of r.algo (raw_lines c) in
    let clean = pieces_clean c.ending c.bytes h.no_byte in
    let all : All (Alike r.algo f) (raw_lines c) =
    λ k d lt. record { no_byte = clean k d lt; no_escape = h.no_escape k d lt; some = h.no_empty k d lt } in
    let now : map (parse_line r.algo f) (raw_lines c) ≡ parsed_content r.algo c =
    ap (λ (ls : List (List ℕ)). map (parse_line r.algo (form_of r.algo ls)) ls)
    (sym (strips-kept (raw_lines c) clean)) in
    let only : (said : List ParsedLine) → ContentSaidOnce r.algo c said → said ≡ parsed_content r.algo c =
    λ said k. only_said r.algo f (raw_lines c) said all k ∙ now in
    let said : ContentSaidOnce r.algo c (parsed_content r.algo c) =
    subst (ContentSaidOnce r.algo c) now (each_said r.algo f (raw_lines c) all) in
    let names : All CleanName (all_verdicts r w c) =
    subst (λ ps. All CleanName (verdicts_of r w 0 ps)) now (names_clean r f w 0 (raw_lines c) all) in record {
      lines = λ other. (only other, λ is. subst (ContentSaidOnce r.algo c) (sym is) said);
      behavior = λ other k. ap (λ ps. older_behavior r labels c (verdicts_of r w 0 ps)) (only other k)
          ∙ behavior_same r labels h.own_name c (all_verdicts r w c) names;
      verdicts = λ other k. ap (verdicts_of r w 0) (only other k);
    }

-- to older versions an empty line said nothing but that it is improperly formatted
only_bad : (algos : Algos) (f : Form) (said : ParsedLine) → SaidOnce algos f [] said → said ≡ bad
only_bad algos f ignored h = let wrong = h.when_ignored.0 refl in cc
only_bad algos f bad h = refl
only_bad algos f (entry s) h = let wrong = entry-not_ignored ((h.when_entry s).0 refl) in cc

-- and it did say so
bad_said : (algos : Algos) (f : Form) → SaidOnce algos f [] bad
bad_said algos f = record {
  when_ignored = (λ h. absurd cc, λ h. absurd cc);
  when_entry = λ s. (λ h. absurd cc, λ e. let wrong = entry-not_ignored e in absurd cc);
}

-- both
empty_bad : (algos : Algos) (f : Form) (said : ParsedLine) → SaidOnce algos f [] said ↔ (said ≡ bad)
empty_bad algos f said = (only_bad algos f said, λ is. subst (SaidOnce algos f []) (sym is) (bad_said algos f))

-- older versions do differ: by a name with a carriage return, by a line with one at its end, and by an empty line
pub older_differs : OlderDiffers
unfolding raw_lines
older_differs = (refl, refl, empty_bad)
