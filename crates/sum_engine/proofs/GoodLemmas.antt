-- A manifest of lines that were written for whole files is good: by induction on its lines.
use Rattle.digest_kinds.specs.Bytes.{LIMIT}
use Rattle.std.proofs.Common.{rules, ◌≡◌, ℕ, suc, ◌+◌, ◌<◌, true, false, List, [], ◌∷◌, ◌++◌, length, map, refl, ap}
use Rattle.std.proofs.Common.{◌∙◌, append_assoc, arith, inl, append-nil, flat_map, All, Ok}
use Rattle.std.proofs.{Math.Bool.and-false, Math.Bool.or-true, lemmas.Bool.ne_eqb, lemmas.List.Elements.All-head}
use Rattle.std.proofs.{lemmas.List.Elements.All-tail, lemmas.Slice.Eq.bytes_eq-Decides}
use Rattle.sum_engine.specs.check.{CheckOne.line_steps, CheckOne.content_behavior, CheckOne.check_behavior_by}
use Rattle.sum_engine.specs.check.{CheckOne.check_behavior, Rules.LabelsValue, Rules.rules_of, Rules.labels_of}
use Rattle.sum_engine.specs.check.{Rules.CheckRules, Summary.end_text, Checker.behavior_from}
use Rattle.sum_engine.{specs.Behavior.World, specs.Behavior.answer_to, specs.Behavior.world_after}
use Rattle.sum_engine.{specs.Behavior.Behavior, specs.Behavior.out_text, specs.Behavior.err_text}
use Rattle.sum_engine.{proofs.CheckOneLemmas.opening}
use Rattle.sum_engine.specs.check.{Judge.Right, Judge.LineVerdictValue, Judge.judge, Judge.line_verdict}
use Rattle.sum_engine.specs.check.{Judge.verdicts_of, Judge.all_verdicts, Report.out_by, Report.out_of, Report.err_of}
use Rattle.sum_engine.specs.check.{Counts.Counts, Counts.counts_of, Counts.is_manifest_good}
use Rattle.sum_engine.proofs.ListedEntryLemmas.{Item, written_text, Listed, prefix, spelled_for, ReadableSoFar, back}
use Rattle.sum_engine.proofs.ListedEntryLemmas.{whole, lines-are}
use Rattle.digest_kinds.specs.declared.algo.Algos.{Algos}
use Rattle.sum_lines.{proofs.ParsedLineLemmas.parse_is_grammar, specs.Escape.escape}
use Rattle.sum_lines.{specs.declared.reading.read_line.Form.Form, specs.grammar.Entries.IsEntry}
use Rattle.sum_lines.{specs.grammar.Form.form_of, specs.grammar.ParsedLines.parse_line}
use Rattle.sum_sources.proofs.ContentLemmas.{limit-value, clip-short}
use Rattle.sum_sources.specs.{declared.fault.Ending.TheVariants.Whole, inputs.Input.Content, sources.Source.AnswerValue}
use Rattle.sum_sources.specs.{sources.Source.times, sources.WithStdin.is_dash}
use Rattle.sum_sources.specs.LineReader.{past_line}
use Rattle.sum_settings.specs.declared.settings.{CheckSettings.CheckSettings, Report.Report}

-- ---- each verdict is Right

-- the verdict of an item on line n
abbrev right : ℕ → Item → LineVerdictValue
right n i = record { number = n; verdict = Right; name = i.name }

-- the verdicts of items after line n
abbrev pub rights : ℕ → List Item → List LineVerdictValue
rights n [] = []
rights n (i ∷ is) = right (n + 1) i ∷ rights (n + 1) is

-- these are the files, whatever was opened before
abbrev pub Steady : (List ℕ → AnswerValue) → World → Type 0
Steady files w = (name : List ℕ) (k : ℕ) → is_dash name ≡ false → w.answer name k ≡ files name

-- a written line is judged right: its item's file has the digest that it spells
judged : (r : CheckRules) (files : List ℕ → AnswerValue) (w : World) (n : ℕ) (f : Form) (i : Item)
    → Steady files w → Listed r.algo files i
    → IsEntry escape r.algo f (prefix i) (spelled_for i)
    → line_verdict r w n (parse_line r.algo f (prefix i)) ≡ right n i
judged r files w n f i steady h e =
    let is = parse_is_grammar r.algo f (prefix i) in
    let verdict : judge r w (spelled_for i) ≡ Right =
    rw (steady i.name (times i.name w.opened) h.no_dash)
    (search (rules, clip-short, limit-value, and-false, bytes_eq-Decides)) in
    rw ((is.when_entry (spelled_for i)).1 e, verdict) refl

-- written lines are all judged right, each in the world that those before it leave
right-verdicts : (r : CheckRules) (files : List ℕ → AnswerValue) (before : List (List ℕ)) (is : List Item) (w : World)
    (n : ℕ)
    → Steady files w → ReadableSoFar r.algo before → All (Listed r.algo files) is
    → verdicts_of r w n (map (parse_line r.algo (form_of r.algo (before ++ map prefix is))) (map prefix is))
    ≡ rights n is
right-verdicts r files before [] w n steady u all = refl
right-verdicts r files before (i ∷ is) w n steady u all =
    let algos : Algos = r.algo in
    let h : Listed algos files i = All-head (Listed algos files) i is all in
    let b = back algos files before (map prefix is) i h u in
    let rest = right-verdicts r files (before ++ (prefix i ∷ [])) is (world_after w (i.name ∷ [])) (n + 1)
    steady b.2 (All-tail (Listed algos files) i is all) in
    let here = judged r files w (n + 1) _ i steady h b.1 in search (rules, append_assoc, here, rest)

-- ---- what is reported, and the end

-- the report of a right name
abbrev pub right_line : Report → List ℕ → List ℕ
right_line report name = out_by report Right name

-- the counts of k right lines
abbrev right_counts : ℕ → Counts
right_counts k = record { right = k; wrong = 0; missing = 0; unread = 0; bad = 0 }

module _ (r : CheckRules) (labels : LabelsValue) where
  -- each name is reported as right, nothing is written on standard error, and each is counted
  rights-are : (n : ℕ) (is : List Item) → let js = rights n is in
      (flat_map (out_of labels) js ≡ flat_map (λ (i : Item). right_line labels.report i.name) is)
      × (flat_map (err_of r labels) js ≡ []) × (counts_of js ≡ right_counts (length is))
  rights-are n [] = (refl, refl, refl)
  rights-are n (i ∷ is) =
      let (out, err, counts) = rights-are (n + 1) is in search (rules, out, err, counts)

  -- a manifest's behavior writes the reports of its lines; and on standard error also the end
  texts-are : (end : List ℕ) (c : Content) (js : List LineVerdictValue) → let steps = line_steps r labels end c js in
      (flat_map (λ s. s.out) steps ≡ flat_map (out_of labels) js)
      × (flat_map (λ s. s.err) steps ≡ flat_map (err_of r labels) js ++ end)
  texts-are end c [] = (refl, append-nil end)
  texts-are end c (j ∷ js) =
      let (out, err) = texts-are end (past_line c) js in search (rules, append_assoc, out, err)

-- a manifest of right lines is good
is-good : (r : CheckRules) (k : ℕ) → is_manifest_good r Whole (right_counts (suc k)) ≡ true
is-good r k = rw (ne_eqb (suc k) 0 (λ e. omega (arith, e)), or-true) refl

-- ---- the whole manifest

-- the behavior of checking such a manifest
pub record Found (check : CheckSettings) (tool : List ℕ) (w : World) (manifest : List ℕ) (is : List Item) : Type 0 where
  pub good : (check_behavior check tool w manifest).good ≡ true
  pub out : out_text (check_behavior check tool w manifest) ≡ flat_map (λ (i : Item). right_line check.report i.name) is
  pub err : err_text (check_behavior check tool w manifest) ≡ []

-- a manifest with at least one line is good, and each of its names is reported as right
pub manifest_good : (check : CheckSettings) (tool manifest : List ℕ) (files : List ℕ → AnswerValue) (w : World)
    (is : List Item) → Steady files w → All (Listed check.algo files) is → 0 < length is
    → length (flat_map written_text is) < LIMIT → answer_to w manifest ≡ Ok (whole is) → Found check tool w manifest is
manifest_good check tool manifest files w [] steady all some fits given = absurd (omega arith)
manifest_good check tool manifest files w (i ∷ is) steady all some fits given =
    let r : CheckRules = rules_of check (is_dash manifest) in
    let labels : LabelsValue = labels_of check tool manifest in
    let next : World = world_after w (manifest ∷ []) in
    let c : Content = whole (i ∷ is) in
    let js = rights 0 (i ∷ is) in
    let verdicts : all_verdicts r next c ≡ js = rw (lines-are check.algo files (i ∷ is) all)
    (right-verdicts r files [] (i ∷ is) next 0 steady (inl refl) all) in
    let of : Content → List LineVerdictValue → Behavior =
    λ c js. behavior_from (opening manifest) (content_behavior r labels c js) in
    let here = ap (check_behavior_by r labels manifest next) given
    ∙ ap (λ c. of c (all_verdicts r next c)) (clip-short c fits) ∙ ap (of c) verdicts in
    let are = rights-are r labels 0 (i ∷ is) in
    let end = end_text r labels Whole (counts_of js) in
    let texts = texts-are r labels end c js in
    record {
      good = ap (λ (q : Behavior). q.good) here ∙ ap (is_manifest_good r Whole) are.2 ∙ is-good r (length is);
      out = ap out_text here ∙ texts.0 ∙ are.0;
      err = ap err_text here ∙ texts.1 ∙ ap (λ t. t ++ end) are.1
          ∙ ap (end_text r labels Whole) are.2 ∙ search rules;
    }
