-- What a call reads, and what it performs of a behavior: the form of the headline.
use Rattle.std.specs.Prelude.{ℕ, ◌≡◌, ◌≢◌, ◌+◌, ◌<◌, ◌⊎◌, Bool, List, [], ◌∷◌, ◌++◌, filter_map, All, Some, IfSome}
use Rattle.std.specs.Prelude.{Result, Option, None, Ok, Err, IfOk}
use Rattle.digest_kinds.specs.Bytes.{ByteString}
use Rattle.sum_settings.specs.declared.stop.Stop.{Stop, TheVariants.Memory, TheVariants.Write}
use Rattle.sum_lines.specs.sinks.Output.{Gets, OutputEvent}
use Rattle.sum_sources.specs.{declared.fault.Ending.TheVariants.Whole, declared.fault.Fault.Fault}
use Rattle.sum_sources.specs.{declared.inputs.input.Phase.TheVariants.Ended}
use Rattle.sum_sources.specs.{declared.inputs.input.Phase.TheVariants.Past, inputs.Input.Reads}
use Rattle.sum_sources.specs.sources.Source.{SourceState, Opening, FitsAnswer, names_of, result_at}
use Rattle.sum_engine.specs.{Behavior.World, Behavior.Event}
use Rattle.sum_engine.specs.{Behavior.Step, Behavior.Behavior, Behavior.trace, Streams.StreamsState}

-- ---- what was read

-- a world agrees with all that was read so far
pub record Agrees (world : World) (source : SourceState) : Type 0 where
  pub gave : (name : ByteString) (k : ℕ) → IfSome (result_at source.openings name k) (FitsAnswer (world.answer name k))

-- the names that were opened so far
abbrev pub opened_names : SourceState → List ByteString
opened_names source = names_of source.openings

-- the world as it is from here on
abbrev pub world_at : World → SourceState → World
world_at world source = record world { opened = opened_names source }

-- no read came after an end or a fault, or went into an empty buffer. If Wanted holds, the end was found
abbrev pub IsAtEndIf : Type 0 → Reads → Type 0
IsAtEndIf Wanted reads = (reads.phase ≢ Past) × (Wanted → reads.phase ≡ Ended Whole)

-- a file was opened, read as `IsAtEndIf` says, and closed; or it could not be opened
abbrev pub ReadsFile : Type 0 → Opening → Type 0
ReadsFile Wanted opening = (gave : Result Reads Fault) × (opening.gave ≡ Some gave) × IfOk gave (IsAtEndIf Wanted)

-- a call reads each file that it opens: to its end, if Wanted holds, and never past it. What the source has in memory
-- stays
pub record ReadsToEndIf (Wanted : Type 0) (before after : SourceState) : Type 0 where
  pub told : after.told ≡ before.told
  pub openings : (more : List Opening) × (after.openings ≡ before.openings ++ more) × All (ReadsFile Wanted) more

-- ---- what happened

-- these names were opened, and the source wasn't refused memory
pub record OpensNames (before after : SourceState) (names : List ByteString) : Type 0 where
  pub opened : opened_names after ≡ opened_names before ++ names
  pub refusals : after.refusals ≡ before.refusals

-- the source was refused memory, and nothing else happened
abbrev pub RefusesMemory : SourceState → SourceState → Type 0
RefusesMemory before after = after ≡ record before { refusals = before.refusals + 1 }

-- the name that an event opens, if it opens one
abbrev pub opened_name : Event → Option ByteString
opened_name (Event.open_name name) = Some name
opened_name event = None

-- what standard error gets by an event, if it gets something
abbrev pub err_event : Event → Option OutputEvent
err_event (Event.to_err event) = Some event
err_event event = None

-- what standard output gets by an event, if it gets something
abbrev pub out_event : Event → Option OutputEvent
out_event (Event.to_out event) = Some event
out_event event = None

-- these events happened: the names were opened, and each output was offered its pieces and wrote its bytes
pub record Happened (before after : StreamsState) (events : List Event) : Type 0 where
  pub inputs : OpensNames before.inputs after.inputs (filter_map opened_name events)
  pub err : Gets before.outputs.err after.outputs.err (filter_map err_event events)
  pub out : Gets before.outputs.out after.outputs.out (filter_map out_event events)

-- the streams, if the source had been refused memory this often
abbrev pub streams_with_refusals : ℕ → StreamsState → StreamsState
streams_with_refusals n state = record state { inputs = record state.inputs { refusals = n } }

-- memory ran out before the next step: the source was refused it for the step's name; or bytes of a manifest remained,
-- so a line may have needed it
pub record RunsOutOfMemory (steps : List Step) (before after : StreamsState) : Type 0 where
  pub done : List Step  -- the steps that happened
  pub next : Step  -- the one before which memory ran out
  pub later : List Step
  pub are : steps ≡ done ++ next ∷ later
  pub happened : Happened before (streams_with_refusals before.inputs.refusals after) (trace done)
  pub cause : ((after.inputs.refusals ≡ before.inputs.refusals + 1) × (next.names ≢ []))
      ⊎ ((after.inputs.refusals ≡ before.inputs.refusals) × (0 < next.manifest_left))

-- THE HEADLINE, for a call that is to return this outcome: the call returns it, and the whole trace happened; or a
-- write failed after a prefix of the trace; or memory ran out at a step, and exactly the steps before it happened
abbrev pub PerformsSteps : {A : Type 0} → List Step → A → StreamsState → StreamsState → Result A Stop → Type 0
PerformsSteps steps outcome before after (Ok value) = (value ≡ outcome) × Happened before after (trace steps)
PerformsSteps steps outcome before after (Err Write) =
    (front rest : List Event) × (trace steps ≡ front ++ rest) × Happened before after front
PerformsSteps steps outcome before after (Err Memory) = RunsOutOfMemory steps before after

-- in each world that agrees with what was read by its end, a call performs the behavior, and returns what `good` asks
abbrev pub Performs : {A : Type 0} → (World → Behavior) → (Bool → A) → StreamsState → StreamsState → Result A Stop
    → Type 0
Performs behavior_of outcome_of before after result = (world : World) → Agrees world after.inputs
    → let behavior = behavior_of (world_at world before.inputs) in
    PerformsSteps behavior.steps (outcome_of behavior.good) before after result
