-- Relates a whole run of a checker to the manifest's behavior.
use Rattle.std.specs.Prelude.{ℕ, ◌≡◌, Bool, true, length, Result, Ok, Err}
use Rattle.sum_settings.specs.declared.stop.Stop.{Stop}
use Rattle.sum_sources.specs.{declared.inputs.input.Phase.TheVariants.Unfinished, inputs.Input.Content}
use Rattle.sum_sources.specs.{inputs.Input.InputState, inputs.Input.Fits, inputs.Input.IsSameInput, inputs.Input.clip}
use Rattle.sum_sources.specs.{inputs.Input.reads_past}
use Rattle.sum_engine.specs.Execution.{Agrees, world_at, IsAtEndIf, ReadsToEndIf, PerformsSteps}
use Rattle.sum_engine.specs.{Streams.StreamsState, Streams.FailuresMatch, check.CheckOne.content_behavior}
use Rattle.sum_engine.specs.{check.CheckOne.StopsAtStep, check.Rules.LabelsValue, check.Rules.CheckRules}
use Rattle.sum_engine.specs.{Behavior.Behavior, Behavior.World, check.Judge.all_verdicts}

-- a call performed a behavior, or stopped at one of its steps; n bytes of the manifest of this content were read
abbrev pub RunsTo : Behavior → Content → ℕ → StreamsState → StreamsState → Result Bool Stop → Type 0
RunsTo all content n before after (Ok good) = PerformsSteps all.steps all.good before after (Ok good)
RunsTo all content n before after (Err stop) = StopsAtStep stop all.steps content n before after

-- a new checker ran to its end, returned this result, and left its input in the state `new`
pub record RunsManifest (rules : CheckRules) (labels : LabelsValue) (old new : InputState) (before after : StreamsState)
    (result : Result Bool Stop) : Type 0 where
  -- of an input that hadn't ended: the behavior of each content that fits its reads
  pub runs : old.reads.phase ≡ Unfinished → let read = reads_past (length old.reads.bytes) new.reads in
      (content : Content) → Fits read content → (world : World) → Agrees world after.inputs → RunsTo (content_behavior
      rules labels (clip content) (all_verdicts rules (world_at world before.inputs) (clip content)))
      (clip content) (length read.bytes) before after result
  pub manifest : old.reads.phase ≡ Unfinished → IsAtEndIf (result ≡ Ok true) new.reads
  pub same : IsSameInput old new
  pub failures : FailuresMatch before.outputs after.outputs result
  pub reads : ReadsToEndIf (result ≡ Ok true) before.inputs after.inputs
