-- `hash_with_stdin` and `check_once`: how often what a call performed opens `-`.
use Rattle.std.proofs.Common.{arith, ◌≡◌, ◌∙◌, ◌+◌, ℕ, true, List, [], ◌∷◌, ◌++◌, Result, Ok, Err, refl, ap, sym}
use Rattle.std.proofs.Common.{append-nil, codes, flat_map, filter_map}
use Rattle.std.{proofs.lemmas.Grind.flat_map-append, proofs.lemmas.List.Elements.filter_map-append}
use Rattle.std.{proofs.lemmas.List.Sums.sum_by-append, proofs.lemmas.Slice.Eq.bytes_eq-Decides, specs.Prelude.OnOk}
use Rattle.sum_sources.specs.{inputs.Input.Content, sources.Source.AnswerValue, sources.Source.times}
use Rattle.sum_sources.specs.{sources.WithStdin.is_dash}
use Rattle.digest_kinds.specs.Bytes.{ByteString}
use Rattle.sum_engine.specs.check.{Rules.LabelsValue, Rules.labels_of, Rules.rules_of, CheckOne.check_behavior_by}
use Rattle.sum_engine.specs.check.{CheckOne.line_steps, Judge.verdicts_of}
use Rattle.sum_engine.specs.{Execution.opened_name, Execution.PerformsSteps, Execution.opened_names}
use Rattle.sum_engine.specs.{declared.check.rules.CheckRules.CheckRules, Behavior.Step, Behavior.World, Behavior.trace}
use Rattle.sum_engine.specs.{Streams.StreamsState}
use Rattle.sum_settings.specs.declared.{settings.CheckSettings.CheckSettings, stop.Stop.Stop}
use Rattle.sum_settings.specs.declared.{stop.Stop.TheVariants.Memory, stop.Stop.TheVariants.Write}
use Rattle.sum_lines.specs.grammar.ParsedLines.{ParsedLine}

-- how often `-` is among names
abbrev pub dashes : List ByteString → ℕ
dashes names = times (codes "-") names

-- how often `-` is among names, and then among others
pub dashes-append : (xs ys : List ByteString) → dashes (xs ++ ys) ≡ dashes xs + dashes ys
dashes-append xs ys = sum_by-append _ xs ys

-- the names that a call opened come first among those of its steps, and are all of them, unless it stopped
pub opened : {A : Type 0} (s : List Step) (x : A) (a b : StreamsState) (r : Result A Stop) → PerformsSteps s x a b r
    → (names more : List ByteString) × (filter_map opened_name (trace s) ≡ names ++ more)
    × (opened_names b.inputs ≡ opened_names a.inputs ++ names) × OnOk r (more ≡ [])
opened s x a b (Ok y) h = (_, [], sym (append-nil _), h.1.inputs.opened, refl)
opened s x a b (Err Write) h =
    (_, _, ap (filter_map opened_name) h.2 ∙ filter_map-append _ h.0 h.1, h.3.inputs.opened, tt)
opened s x a b (Err Memory) h =
    let are = ap (filter_map opened_name) (ap trace h.are ∙ flat_map-append _ h.done (h.next ∷ h.later)) in
    (_, _, are ∙ filter_map-append _ (trace h.done) (trace (h.next ∷ h.later)), h.happened.inputs.opened, tt)

-- a line of a manifest from standard input doesn't open `-`
lines_open : (r : CheckRules) → r.from_stdin ≡ true → (labels : LabelsValue) (end : ByteString)
    (said : List ParsedLine) (c : Content) (w : World) (n : ℕ)
    → dashes (flat_map (λ s. s.names) (line_steps r labels end c (verdicts_of r w n said))) ≡ 0
lines_open r is labels end [] c w n = refl
lines_open r is labels end (x ∷ xs) c w n =
    rw (sum_by-append, lines_open r is labels end xs) (grind (arith, is, bytes_eq-Decides))

-- so a check of one opens `-` once
pub check_opens : (settings : CheckSettings) (tool name : ByteString) (w : World) (answer : AnswerValue)
    → is_dash name ≡ true
    → let run = check_behavior_by (rules_of settings (is_dash name)) (labels_of settings tool name) name w answer in
    dashes (flat_map (λ s. s.names) run.steps) ≡ 1
check_opens settings tool name w (Err f) is = grind (arith, bytes_eq-Decides, is)
check_opens settings tool name w (Ok c) is =
    rw (sum_by-append, lines_open (rules_of settings (is_dash name)) is) (grind (arith, bytes_eq-Decides, is))
