-- Runs that write one text and nothing else: a fault, the help, the version.
use Rattle.std.proofs.Common.{ℕ, Bool, [], Result, refl}
use Rattle.sum_engine.{proofs.BehaviorLemmas.Performs-step, proofs.WorldLemmas.asks_none, specs.Behavior.single_step}
use Rattle.sum_engine.{specs.Execution.Performs, specs.Streams.WritesAndReturns, specs.Streams.BothOutputs}
use Rattle.sum_engine.{specs.Streams.StreamsState}
use Rattle.digest_kinds.specs.Bytes.{ByteString}
use Rattle.sum_settings.specs.declared.stop.Stop.{Stop}
use Rattle.digests.specs.ToolRun.{status_of}

-- texts alone were written, or a prefix of them
pub Performs-texts : (a : StreamsState) (outputs : BothOutputs) (err out : ByteString) (good : Bool)
    (x : Result ℕ Stop) → WritesAndReturns a.outputs outputs err out (status_of good) x
    → Performs (λ w. single_step [] err out good) status_of a (record a { outputs = outputs }) x
Performs-texts a outputs err out good x said =
    Performs-step (λ w. single_step [] err out good) status_of good a (record a { outputs = outputs })
    (asks_none a.inputs) (λ w agrees. refl) said
