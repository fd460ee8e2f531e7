-- A run and its end, joined: what the whole program does.
use Rattle.std.proofs.Common.{arith, ℕ, List, [], ◌∷◌, ◌++◌, Option, None, Result, Ok, Err, false, refl, ◌∙◌}
use Rattle.std.proofs.Common.{append_assoc, append-nil}
use Rattle.sum_engine.specs.{Behavior.World, Behavior.Step, Behavior.Behavior, Behavior.trace, Behavior.single_step}
use Rattle.sum_engine.specs.{Streams.BothOutputs, Streams.StreamsState, Streams.FailuresMatch, Streams.WritesBoth}
use Rattle.sum_engine.specs.{Streams.WritesAndReturns, Execution.world_at}
use Rattle.sum_engine.{specs.Execution.Performs, specs.Execution.PerformsSteps, proofs.ExecutionLemmas.Happened-then}
use Rattle.sum_engine.{proofs.ExecutionLemmas.step_performed, proofs.WorldLemmas.asks_none}
use Rattle.digest_kinds.specs.Bytes.{ByteString}
use Rattle.sum_settings.specs.declared.stop.Stop.{Stop, TheVariants.Memory, TheVariants.Write}
use Rattle.sum_words.specs.declared.tool.Tool.{Tool}
use Rattle.digests.{proofs.MessageLemmas.Performs-texts, specs.Program.CallPerforms, specs.Program.CallRefuses}
use Rattle.digests.{specs.private.Finish.FinishesRun, specs.private.Finish.Refuses}
use Rattle.digests.specs.ToolRun.{status_of}

-- a run that returned is still performed once both outputs were given an empty text, or it failed after all events
Performs-flushed : (run : World → Behavior) (a b : StreamsState) (outputs : BothOutputs) (x : ℕ)
    (later : Result ℕ Stop) → Performs run status_of a b (Ok x) → WritesAndReturns b.outputs outputs [] [] x later
    → Performs run status_of a (record b { outputs = outputs }) later
Performs-flushed run a b outputs x later ran said = λ w agrees.
    by (run (world_at w a.inputs)).steps later (ran w agrees)
    (step_performed 0 later (asks_none b.inputs) said) said.writes
  where
    c : StreamsState
    c = record b { outputs = outputs }

    by : (steps : List Step) {y : ℕ} (later : Result ℕ Stop) → PerformsSteps steps y a b (Ok x)
        → PerformsSteps (record { names = []; err = []; out = []; manifest_left = 0 } ∷ []) x b c later
        → WritesBoth b.outputs outputs [] [] x later → PerformsSteps steps y a c later
    by steps (Ok z) all none wrote = (none.0 ∙ all.0, rw append-nil at (Happened-then (trace steps) [] all.1 none.1))
    by steps (Err Write) all none wrote = (
      trace steps ++ none.0,
      none.1,
      rw (append_assoc, ← none.2, append-nil) refl,
      Happened-then (trace steps) none.0 all.1 none.3,
    )
    by steps (Err Memory) all none wrote = absurd wrote

-- a run and its end, by the run's answer; b is how things stood between
pub CallPerforms-finished : (status : ℕ) (tool : Option Tool) (run : World → Behavior) (a b : StreamsState)
    (outputs : BothOutputs) (answer : Result ℕ Stop) → Performs run status_of a b answer
    → FailuresMatch a.outputs b.outputs answer → FinishesRun tool answer b.outputs outputs status
    → CallPerforms tool (Performs run status_of) a (record b { outputs = outputs }) status
CallPerforms-finished status tool run a b outputs (Ok x) ran failed (later, m, flushes, reports) = record {
  result = later;
  between = record b { outputs = m };
  runs = Performs-flushed run a b m x later ran flushes;
  failures = let more = flushes.failures in grind arith;
  inputs = refl;
  end = reports;
}
CallPerforms-finished status tool run a b outputs (Err stop) ran failed (later, m, flushes, reports) = record {
  result = Err stop;
  between = b;
  runs = ran;
  failures = failed;
  inputs = refl;
  end = rw (flushes.0, flushes.1) at reports;
}

-- a call that is refused with this line
pub CallRefuses-refused : (status : ℕ) (a : StreamsState) (outputs : BothOutputs) (line : ByteString)
    → Refuses line a.outputs outputs status → CallRefuses line a (record a { outputs = outputs }) status
CallRefuses-refused status a outputs line (answer, between, said, finish) =
    CallPerforms-finished status None (λ w. single_step [] line [] false) a (record a { outputs = between }) outputs
    answer (Performs-texts a between line [] false answer said) said.failures finish
