use Rattle.sum_engine.specs.Execution.{world_at}
use Rattle.digests.specs.ToolRun.{meaning, status_of}
use Rattle.theorems.proofs.TextLemmas.{texts_written}
use Rattle.theorems.proofs.runs.run_written.Goals as goal

pub returns : goal.returns
returns g c = λ w agrees.
    let old = c.args.streams.now in
    let all = meaning c.args.tool c.args.words.now (world_at w old.inputs) in
    texts_written all (status_of all.good) old _ c.run.result (c.run.ensures.behavior w agrees)
