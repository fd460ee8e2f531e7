-- If a step ends a check, no line was left, and none is.
use Rattle.std.proofs.Common.{arith, ◌≡◌, ℕ, Bool, List, [], ◌∷◌, None, Some, Ok, Err, refl, ap, ◌∙◌, map}
use Rattle.digest_kinds.specs.Bytes.{ByteString}
use Rattle.sum_engine.specs.{Behavior.Behavior, Behavior.Step, Behavior.World, Streams.BothOutputs}
use Rattle.sum_engine.specs.{check.CheckOne.line_steps, check.Rules.LabelsValue, check.Summary.end_text}
use Rattle.sum_engine.specs.check.{Counts.counts_of, Counts.counts_then, Judge.LineVerdictValue, Judge.verdicts_of}
use Rattle.sum_engine.specs.check.{Checker.ReportsFound, Checker.behavior_from, Checker.remaining_behavior}
use Rattle.sum_engine.specs.check.{Verdicts.AdvancesVerdicts, Verdicts.CheckState, Verdicts.VerdictResult}
use Rattle.sum_engine.specs.check.{Verdicts.VerdictsValue, Verdicts.remaining_verdicts}
use Rattle.sum_engine.specs.declared.check.{progress.Progress.TheVariants.Ended, rules.CheckRules.CheckRules}
use Rattle.sum_lines.specs.grammar.ParsedLines.{ParsedLine}
use Rattle.sum_sources.specs.{LineReader.IsReading, LineReader.reads_of, LineReader.remaining_content}
use Rattle.sum_sources.specs.{inputs.Input.Content, inputs.Input.Fits, inputs.Input.InputState}
use Rattle.sum_sources.specs.{sources.Source.SourceState}
use Rattle.sum_sources.specs.LineReader.{lines_in}
use Rattle.sum_sources.specs.declared.line_reader.{LineStop.TheVariants.Fault, LineStop.TheVariants.Memory}
use Rattle.sum_sources.specs.declared.line_reader.{Next.TheVariants.NoMore}

-- steps that are a single one are those of no verdict
no_verdict : (rules : CheckRules) (labels : LabelsValue) (end : ByteString) (content : Content) (step : Step)
    (found : List LineVerdictValue) → line_steps rules labels end content found ≡ step ∷ [] → found ≡ []
no_verdict rules labels end content step [] h = refl
no_verdict rules labels end content step (x ∷ []) h = grind arith
no_verdict rules labels end content step (x ∷ y ∷ more) h = grind arith

-- lines without a verdict are none
no_lines : (rules : CheckRules) (world : World) (n : ℕ) (parse : ByteString → ParsedLine) (all : List ByteString)
    → verdicts_of rules world n (map parse all) ≡ [] → all ≡ []
no_lines rules world n parse [] h = refl
no_lines rules world n parse (x ∷ xs) h = cc

-- if only one step remains, no line does
pub none_before : (rules : CheckRules) (labels : LabelsValue) (state : CheckState) (step : Step) (later : Behavior)
    → remaining_behavior rules labels state ≡ behavior_from step later → later.steps ≡ []
    → lines_in state.remaining ≡ []
none_before rules labels state step later is none =
    let found = remaining_verdicts rules state in
    let text = end_text rules labels state.remaining.ending (counts_then state.counts (counts_of found)) in
    let one : line_steps rules labels text state.remaining found ≡ step ∷ [] =
    ap (λ (b : Behavior). b.steps) is ∙ ap (λ (s : List Step). step ∷ s) none in
    no_lines rules state.world state.number _ (lines_in state.remaining)
    (no_verdict rules labels text state.remaining step found one)

-- if the end was reported, the reader returns the end or the fault from then on
pub none_after : {I : Type 0} {state : I → InputState} {p q : VerdictsValue I} {vector : ByteString}
    {before after : SourceState} (labels : LabelsValue) (found : VerdictResult) (a b : BothOutputs) (good : Bool)
    → ReportsFound q labels vector found a b (Ok (Ended good)) → AdvancesVerdicts state vector p q before after found
    → IsReading state q.reader → (content : Content) → Fits (reads_of state q.reader) content
    → lines_in (remaining_content q.reader content) ≡ []
none_after labels (Ok (Some v)) a b good reported did reading content of = let no = reported.writes.0 in cc
none_after labels (Ok None) a b good reported did reading content of =
    (reading.final (Ok NoMore) (rw did.found at did.reader.final_answer) [] content of).0
none_after labels (Err (Fault f)) a b good reported did reading content of =
    (reading.final (Err (Fault f)) (rw did.found at did.reader.final_answer) [] content of).0
none_after labels (Err Memory) a b good reported did reading content of = let no = reported.0 in cc
