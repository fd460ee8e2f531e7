-- `same_front`: later lines have no part in what a line says, by induction on the lines before it.
use Rattle.std.proofs.Common.{rules, ◌≡◌, ℕ, ◌+◌, List, [], ◌∷◌, ◌++◌, length, take, refl, sym, ◌∙◌, append_assoc}
use Rattle.std.proofs.Common.{length-append, map}
use Rattle.sum_engine.specs.{Behavior.World, Behavior.world_after, Laws.SameFront, check.Judge.LineVerdictValue}
use Rattle.sum_engine.specs.{check.Judge.line_verdict, check.Judge.names_in_line, check.Judge.verdicts_of}
use Rattle.sum_engine.specs.{check.Rules.CheckRules}
use Rattle.sum_lines.specs.{Escape.escape, grammar.ParsedLines.parse_line, grammar.Entries.EntryValue}
use Rattle.sum_lines.specs.{grammar.Entries.IsEntry, declared.reading.read_line.Form.Form, grammar.Form.form_of}
use Rattle.sum_lines.specs.{grammar.Form.form_then, grammar.Form.line_form}
use Rattle.sum_lines.{proofs.ParsedLineLemmas.parse_is_grammar, proofs.EntryLemmas.form_next}
use Rattle.sum_lines.{proofs.EntryLemmas.parse_stays, proofs.EntryLemmas.same_parse, proofs.EntryLemmas.same_form}
use Rattle.sum_lines.{specs.declared.reading.read_line.Form.TheVariants.Undecided}
use Rattle.digest_kinds.specs.declared.algo.Algos.{Algos}

-- the verdicts of the first lines, by the form so far
abbrev running : CheckRules → World → ℕ → Form → List (List ℕ) → List LineVerdictValue
running r w n f [] = []
running r w n f (l ∷ ls) =
    let here = form_then f (line_form r.algo l) in
    let j = line_verdict r w (n + 1) (parse_line r.algo here l) in
    j ∷ running r (world_after w (names_in_line j)) (n + 1) here ls

-- the verdicts of the first lines are the same, whatever follows
prefix_verdicts : (r : CheckRules) (w : World) (n : ℕ) (f : Form) (prefix later : List (List ℕ)) →
    take (length prefix) (verdicts_of r w n (map (parse_line r.algo (form_then f (form_of r.algo (prefix ++ later))))
    (prefix ++ later))) ≡ running r w n f prefix
prefix_verdicts r w n f [] later = refl
prefix_verdicts r w n f (l ∷ ls) later =
    let here = form_then f (line_form r.algo l) in
    let rest = form_of r.algo (ls ++ later) in
    let j = line_verdict r w (n + 1) (parse_line r.algo here l) in
    let later_on = prefix_verdicts r (world_after w (names_in_line j)) (n + 1) here ls later in
    search (rules, form_next, parse_stays r.algo f rest l, later_on)

-- an entry by one form is one by another, if the line says the same
entry_same : (algos : Algos) (f g : Form) (line : List ℕ) (s : EntryValue)
    → parse_line algos f line ≡ parse_line algos g line
    → IsEntry escape algos f line s → IsEntry escape algos g line s
entry_same algos f g line s same e =
    ((parse_is_grammar algos g line).when_entry s).0
    (sym same ∙ ((parse_is_grammar algos f line).when_entry s).1 e)

-- later lines have no part in an entry, a verdict or a plain line's form
pub same_front : SameFront
same_front r w before line later others =
    let same : (a b : List (List ℕ)) → parse_line r.algo (form_of r.algo (before ++ (line ∷ a))) line
    ≡ parse_line r.algo (form_of r.algo (before ++ (line ∷ b))) line =
    λ a b. same_parse r.algo before a b line in
    let prefix = before ++ line ∷ [] in
    let all = prefix_verdicts r w 0 Undecided prefix later ∙ sym (prefix_verdicts r w 0 Undecided prefix others) in
    record {
      entry = λ s. (entry_same r.algo _ _ line s (same later others), entry_same r.algo _ _ line s (same others later));
      verdict = search (rules, length-append, append_assoc, all);
      form = same_form r.algo before later others line;
    }
