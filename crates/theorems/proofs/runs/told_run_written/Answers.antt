use Rattle.sum_engine.specs.{Behavior.World, Execution.opened_names}
use Rattle.digests.specs.ToolRun.{meaning, status_of}
use Rattle.theorems.proofs.TextLemmas.{texts_written}
use Rattle.theorems.proofs.runs.told_run_written.Goals as goal

pub returns : goal.returns
returns g c = λ answer told.
    let old = c.args.streams.now in
    let ran = c.run-outcome.ensures in
    let w : World = record { answer = answer; opened = opened_names old.inputs } in
    let all = meaning c.args.tool c.args.words.now w in
    texts_written all (status_of all.good) old _ c.run-outcome.result
    (c.told_performs.ensures.meaning c.args.tool c.args.words.now answer old c.run-outcome.result told ran.behavior
    ran.reads)
