-- What a contract sees of the streams: their state, and the failures of outputs.
use Rattle.std.specs.Prelude.{ℕ, ◌≡◌, ◌+◌, ◌⊎◌, Result, Ok, Err}
use Rattle.digest_kinds.specs.Bytes.{ByteString}
use Rattle.sum_lines.specs.sinks.Output.{OutputState, output_events, Gets}
use Rattle.sum_lines.specs.sinks.GivesAll.{GetsPrefix}
use Rattle.sum_settings.specs.declared.stop.Stop.{Stop, TheVariants.Memory, TheVariants.Write}
use Rattle.sum_sources.specs.sources.Source.{SourceState}

-- both outputs
pub record BothOutputs : Type 0 where
  pub out : OutputState
  pub err : OutputState

-- the state of the streams: that of the source, and both outputs
pub record StreamsState : Type 0 where
  pub inputs : SourceState
  pub outputs : BothOutputs

-- ---- the cause of a write fault

-- how often a call of standard output failed, and how often one of standard error
abbrev pub failures_of : BothOutputs → ℕ × ℕ
failures_of outputs = (outputs.out.failures, outputs.err.failures)

-- a write fault comes with one more failure, of one output, and any other result with none
abbrev pub FailuresMatch : {A : Type 0} → BothOutputs → BothOutputs → Result A Stop → Type 0
FailuresMatch before after (Err Write) = (failures_of after ≡ ((failures_of before).0 + 1, (failures_of before).1))
    ⊎ (failures_of after ≡ ((failures_of before).0, (failures_of before).1 + 1))
FailuresMatch before after result = failures_of after ≡ failures_of before

-- ---- what is written

-- standard error got the first text, and then standard output the second, and the call returns the wanted value; or a
-- write failed after a prefix of both texts, in this order
abbrev pub WritesBoth : {A : Type 0} → BothOutputs → BothOutputs → ByteString → ByteString → A → Result A Stop → Type 0
WritesBoth before after err out wanted (Ok value) =
    (value ≡ wanted) × Gets before.err after.err (output_events err) × Gets before.out after.out (output_events out)
WritesBoth before after err out wanted (Err Write) =
    (GetsPrefix before.err after.err (output_events err) × (after.out ≡ before.out))
    ⊎ (Gets before.err after.err (output_events err) × GetsPrefix before.out after.out (output_events out))
WritesBoth before after err out wanted (Err Memory) = ⊥

-- a call writes these texts, and then returns the wanted value, or a write fault if that failed
pub record WritesAndReturns {A : Type 0} (before after : BothOutputs) (err out : ByteString) (wanted : A)
    (result : Result A Stop) : Type 0 where
  pub writes : WritesBoth before after err out wanted result
  pub failures : FailuresMatch before after result
