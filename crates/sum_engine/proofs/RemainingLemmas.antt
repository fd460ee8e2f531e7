-- The verdicts and the behavior that remain, after one line and the next.
use Rattle.std.proofs.Common.{rules, arith, ◌≡◌, ◌≤◌, ℕ, List, [], ◌∷◌, length, refl, ap, ◌∙◌}
use Rattle.sum_lines.proofs.EntryLemmas.{form_next, parse_stays}
use Rattle.sum_engine.{proofs.CountLemmas.counts_then-line, specs.Behavior.world_after, specs.Behavior.Step}
use Rattle.sum_engine.{specs.Behavior.Behavior, specs.check.Rules.LabelsValue}
use Rattle.sum_engine.specs.check.{Rules.CheckRules, CheckOne.line_steps, CheckOne.remaining_before, Summary.end_text}
use Rattle.sum_engine.specs.check.{Judge.LineVerdictValue, Judge.names_in_line, Judge.first_names, Counts.Counts}
use Rattle.sum_engine.specs.check.{Counts.counts_of, Counts.is_manifest_good, Counts.counts_and_line}
use Rattle.sum_engine.specs.check.{Counts.counts_then}
use Rattle.sum_engine.specs.check.{Checker.remaining_behavior, Checker.Going, Checker.behavior_from}
use Rattle.sum_engine.specs.check.{Checker.progress_before, Verdicts.CheckState, Verdicts.HandlesLine}
use Rattle.sum_engine.specs.check.{Verdicts.next_judged, Verdicts.remaining_verdicts, Report.out_of, Report.err_of}
use Rattle.sum_sources.specs.{declared.fault.Ending.Ending, inputs.Input.Content}
use Rattle.sum_sources.specs.LineReader.{past_line, lines_in}

-- one line's verdict, and those that remain after it
pub remaining_next : (r : CheckRules) (a b : CheckState) (v : List ℕ) (h : HandlesLine r a b v)
    → b.world ≡ world_after a.world (names_in_line (next_judged r a h.line))
    → remaining_verdicts r a ≡ next_judged r a h.line ∷ remaining_verdicts r b
remaining_next r a b v h world = rw h.lines (search (rules, form_next, parse_stays))

-- the first verdict that remains opens what that of the next line does
pub first_names-next : (r : CheckRules) (a : CheckState) (line : List ℕ) (rest : List (List ℕ))
    → lines_in a.remaining ≡ line ∷ rest → first_names (remaining_verdicts r a) ≡ names_in_line (next_judged r a line)
first_names-next r a line rest is = rw is (search (rules, form_next, parse_stays))

-- ---- the behavior that remains

-- the step of a line, before which this many bytes remain
abbrev pub line_step : CheckRules → LabelsValue → ℕ → LineVerdictValue → Step
line_step r labels remaining j =
    record { names = names_in_line j; err = err_of r labels j; out = out_of labels j; manifest_left = remaining }

-- the behavior of these verdicts, after these counts
abbrev pub behavior_by : CheckRules → LabelsValue → Ending → Counts → Content → List LineVerdictValue → Behavior
behavior_by r labels e k c js =
    let counts = counts_then k (counts_of js) in
    record { steps = line_steps r labels (end_text r labels e counts) c js; good = is_manifest_good r e counts }

-- it begins with the step of the first, or with that of the end, which opens the first's name; before it all of the
-- content remains, and after it at most what is past the first line
pub first_step : (r : CheckRules) (labels : LabelsValue) (e : Ending) (k : Counts) (c : Content)
    (js : List LineVerdictValue) → (s : Step) × (later : Behavior)
    × (behavior_by r labels e k c js ≡ behavior_from s later) × (s.manifest_left ≡ length c.bytes)
    × (remaining_before later.steps ≤ length (past_line c).bytes) × (s.names ≡ first_names js)
first_step r labels e k c [] = (
  _,
  record { steps = []; good = is_manifest_good r e (counts_then k (counts_of [])) },
  refl,
  refl,
  omega arith,
  refl,
)
first_step r labels e k c (j ∷ js) =
    let here = line_step r labels (length c.bytes) j in
    let later = behavior_by r labels e (counts_and_line k j.verdict) (past_line c) js in
    let by : Counts → Behavior =
    λ n. record { steps = line_steps r labels (end_text r labels e n) c (j ∷ js); good = is_manifest_good r e n } in
    let begins : behavior_by r labels e k c (j ∷ js) ≡ behavior_from here later =
    ap by (counts_then-line k (counts_of js) j.verdict) in
    let (s, last, is, before, after, asks) = first_step r labels e (counts_and_line k j.verdict) (past_line c) js in
    (here, later, begins, refl, rw (ap (λ (q : Behavior). remaining_before q.steps) is, before) (omega arith), refl)

-- a step always remains
pub going-before : (r : CheckRules) (labels : LabelsValue) (a : CheckState)
    → let left = remaining_behavior r labels a in progress_before left.steps left.good ≡ Going
going-before r labels a =
    let first = first_step r labels a.remaining.ending a.counts a.remaining (remaining_verdicts r a) in
    ap (λ (q : Behavior). progress_before q.steps q.good) first.2

-- and before it the bytes remain that do
pub remaining_before-left : (r : CheckRules) (labels : LabelsValue) (a : CheckState)
    → remaining_before (remaining_behavior r labels a).steps ≡ length a.remaining.bytes
remaining_before-left r labels a =
    let first = first_step r labels a.remaining.ending a.counts a.remaining (remaining_verdicts r a) in
    ap (λ (q : Behavior). remaining_before q.steps) first.2 ∙ first.3
