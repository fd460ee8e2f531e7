use Rattle.std.proofs.Common.{Some, inl, inr}
use Rattle.sum_engine.proofs.WorldLemmas.{reads_weaker}
use Rattle.digests.{proofs.ProgramLemmas.CallPerforms-finished, proofs.ProgramLemmas.CallRefuses-refused}
use Rattle.digests.specs.ToolRun.{meaning}
use Rattle.digests.proofs.command_run.command.Goals as goal

-- the tool was run
pub returns-in-Ok-Invoke-clause-behavior : goal.returns-in-Ok-Invoke-clause-behavior
returns-in-Ok-Invoke-clause-behavior g c = λ all agrees.
    let is = rw c.in-Ok-Invoke.field-0-is at (c.in-Ok-Invoke.ensures.line all agrees) in
    let ran = rw (← c.streams.view_is) at c.run-outcome.ensures in
    inl (rw is (CallPerforms-finished c.finish_run.result
    (Some c.in-Ok-Invoke.tool) (meaning c.in-Ok-Invoke.tool c.in-Ok-Invoke.words) c.args.streams.now
    _ c.finish_run.new.outputs c.run-outcome.result ran.behavior ran.failures
    c.finish_run.ensures.finish))

-- status 0 is that of the run
pub returns-in-Ok-Invoke-clause-reads : goal.returns-in-Ok-Invoke-clause-reads
returns-in-Ok-Invoke-clause-reads g c =
    rw (← c.streams.view_is) at (reads_weaker (λ zero. c.finish_run.ensures.good_run zero) c.run-outcome.ensures.reads)

-- no tool is named, and the line for that is written
pub returns-in-Ok-UnknownTool-clause-behavior : goal.returns-in-Ok-UnknownTool-clause-behavior
returns-in-Ok-UnknownTool-clause-behavior g c = λ all agrees.
    let is = rw c.in-Ok-UnknownTool.field-0-is at (c.in-Ok-UnknownTool.ensures.line all agrees) in
    inl (rw (is, ← c.streams-in-Ok-UnknownTool.view_is) (CallRefuses-refused c.refuse.result _
    c.refuse.new.outputs _ c.refuse.ensures.refusal))

-- the words could not be read, and the line for that is written
pub returns-in-Err-clause-behavior : goal.returns-in-Err-clause-behavior
returns-in-Err-clause-behavior g c = λ all agrees.
    let refused = c.refuse-in-Err in
    rw (← c.streams-in-Err.view_is) (inr (
      c.in-Err.ensures.line all agrees,
      CallRefuses-refused refused.result _ refused.new.outputs _ refused.ensures.refusal,
    ))
