-- A checker, and what its next step does.
use Rattle.std.specs.Prelude.{◌≡◌, ◌+◌, ◌<◌, ◌≤◌, ◌⊎◌, Bool, true, false, List, [], ◌∷◌, length, Option, None, Some}
use Rattle.std.specs.Prelude.{Result, Ok, Err}
use Rattle.digest_kinds.specs.Bytes.{ByteString}
use Rattle.sum_settings.specs.declared.stop.Stop.{Stop}
use Rattle.sum_sources.specs.{declared.inputs.input.TheConstants.PIECE, declared.fault.Ending.TheVariants.Whole}
use Rattle.sum_sources.specs.{declared.fault.Ending.TheVariants.Broken, inputs.Input.InputState}
use Rattle.sum_sources.specs.declared.line_reader.LineStop.TheVariants.{Fault, Memory}
use Rattle.sum_engine.specs.{Behavior.Step, Behavior.Behavior, Execution.PerformsSteps, Execution.ReadsToEndIf}
use Rattle.sum_engine.specs.{Execution.RefusesMemory, Streams.BothOutputs, Streams.StreamsState, Streams.FailuresMatch}
use Rattle.sum_engine.specs.{Streams.WritesAndReturns}
use Rattle.sum_engine.specs.check.{CheckOne.line_steps, CheckOne.remaining_before, Counts.counts_of, Counts.counts_then}
use Rattle.sum_engine.specs.check.{Counts.is_manifest_good, Judge.line_verdict_value, Report.out_of, Report.err_of}
use Rattle.sum_engine.specs.check.{Rules.LabelsValue, Rules.CheckRules, Summary.end_text}
use Rattle.sum_engine.specs.check.Verdicts.{VerdictsValue, CheckState, HandlesLine, HoldsInEachCheck, VerdictResult}
use Rattle.sum_engine.specs.check.Verdicts.{AdvancesVerdicts, remaining_verdicts}
pub use Rattle.sum_engine.specs.declared.check.progress.Progress.{Progress, TheVariants.Going, TheVariants.Ended}
use Rattle.sum_settings.specs.declared.stop.Stop.TheVariants as stops

-- a checker
pub record CheckerValue (I : Type 0) : Type 0 where
  pub verdicts : VerdictsValue I
  pub labels : LabelsValue
  pub outcome : Option (Result Bool Stop)  -- whether the manifest is good, or why the check stopped

-- the behavior that remains
abbrev pub remaining_behavior : CheckRules → LabelsValue → CheckState → Behavior
remaining_behavior rules labels state =
    let verdicts = remaining_verdicts rules state in
    let counts = counts_then state.counts (counts_of verdicts) in
    record {
      steps = line_steps rules labels (end_text rules labels state.remaining.ending counts) state.remaining verdicts;
      good = is_manifest_good rules state.remaining.ending counts;
    }

-- the behavior that begins with this step, and then is that of another
abbrev pub behavior_from : Step → Behavior → Behavior
behavior_from step behavior = record { steps = step ∷ behavior.steps; good = behavior.good }

-- what a step returns before these steps: Going, if there are any, and otherwise whether all is good
abbrev pub progress_before : List Step → Bool → Progress
progress_before [] good = Ended good
progress_before steps good = Going

-- a step of a checker performs the first step of the behavior that remained. If it returns Going, a line was handled,
-- and the later steps remain. That also holds after a write fault, unless no step was left
pub record IsStep (rules : CheckRules) (labels : LabelsValue) (vector : ByteString)
    (check_before check_after : CheckState)
    (before after : StreamsState) (result : Result Progress Stop) : Type 0 where
  pub step : Step
  pub later : Behavior
  pub is : remaining_behavior rules labels check_before ≡ behavior_from step later
  pub performs : PerformsSteps (step ∷ []) (progress_before later.steps later.good) before after result
  pub going : result ≡ Ok Going → (later ≡ remaining_behavior rules labels check_after)
      × HandlesLine rules check_before check_after vector
  pub failed : result ≡ Err stops.Write
      → (later.steps ≡ []) ⊎ ((later ≡ remaining_behavior rules labels check_after)
      × HandlesLine rules check_before check_after vector)
  -- if memory ran out: how far beyond the step's line was read
  pub refused : result ≡ Err stops.Memory
      → check_after.taken + remaining_before later.steps ≤ check_before.consumed + length check_before.remaining.bytes
      + PIECE

-- what was found is written: a line's report, or the end. The step returns whether lines may follow
abbrev pub ReportsFound : {I : Type 0} → VerdictsValue I → LabelsValue → ByteString → VerdictResult → BothOutputs
    → BothOutputs → Result Progress Stop → Type 0
ReportsFound verdicts labels vector (Ok (Some found)) before after result =
    let line = line_verdict_value vector found in
    WritesAndReturns before after (err_of verdicts.rules labels line) (out_of labels line) Going result
ReportsFound verdicts labels vector (Ok None) before after result =
    WritesAndReturns before after (end_text verdicts.rules labels Whole verdicts.counts) []
    (Ended (is_manifest_good verdicts.rules Whole verdicts.counts)) result
ReportsFound verdicts labels vector (Err (Fault fault)) before after result =
    WritesAndReturns before after (end_text verdicts.rules labels (Broken fault) verdicts.counts) []
    (Ended false) result
ReportsFound verdicts labels vector (Err Memory) before after result = (result ≡ Err stops.Memory) × (after ≡ before)

-- a call takes a step of the check: it finds the next verdict, and writes what is to be written of it
pub record TakesStep {I : Type 0} (state_of : I → InputState) (vector : ByteString)
    (check_before check_after : CheckerValue I)
    (before after : StreamsState) (result : Result Progress Stop) : Type 0 where
  pub labels : check_after.labels ≡ check_before.labels
  pub step : HoldsInEachCheck state_of check_before.verdicts check_after.verdicts before.inputs after.inputs
      (λ a b. IsStep check_before.verdicts.rules check_before.labels vector a b before after result)
  -- whatever the manifest's content and the world are: what was found, and what was written of it
  pub found : VerdictResult
  pub advances : AdvancesVerdicts state_of vector check_before.verdicts check_after.verdicts
      before.inputs after.inputs found
  pub reports : ReportsFound check_after.verdicts check_before.labels vector found before.outputs after.outputs result
  pub failures : FailuresMatch before.outputs after.outputs result
  -- out of memory: nothing was written. The source was refused memory; or bytes were read ahead, and nothing was opened
  pub memory : result ≡ Err stops.Memory → (after.outputs ≡ before.outputs)
      × (RefusesMemory before.inputs after.inputs
      ⊎ ((after.inputs ≡ before.inputs) × (0 < length check_after.verdicts.reader.ahead)))
  pub lines : result ≡ Ok Going → check_after.verdicts.reader.lines ≡ check_before.verdicts.reader.lines + 1
  -- what was opened was read to its end, unless its line is counted as unread
  pub reads : ReadsToEndIf (check_after.verdicts.counts.unread
      ≡ check_before.verdicts.counts.unread) before.inputs after.inputs
  -- the manifest is good only if no line is left, and each listed file was read to its end
  pub good : result ≡ Ok (Ended true) → (found ≡ Ok None) × (check_after.verdicts.counts.unread ≡ 0)

-- the result of a step that ends or stops a check with this outcome
abbrev pub end_result : Result Bool Stop → Result Progress Stop
end_result (Ok good) = Ok (Ended good)
end_result (Err stop) = Err stop

-- the outcome in a step's result: none for a line, and one for everything else
abbrev pub outcome_in_step : Result Progress Stop → Option (Result Bool Stop)
outcome_in_step (Ok Going) = None
outcome_in_step (Ok (Ended good)) = Some (Ok good)
outcome_in_step (Err stop) = Some (Err stop)
