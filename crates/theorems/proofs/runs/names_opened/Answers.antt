use Rattle.sum_engine.specs.Execution.{world_at}
use Rattle.digests.specs.ToolRun.{meaning, status_of}
use Rattle.theorems.proofs.TextLemmas.{all_opened, first_opened}
use Rattle.theorems.proofs.runs.names_opened.Goals as goal

pub returns-clause-done : goal.returns-clause-done
returns-clause-done g c = λ w agrees.
    let old = c.args.streams.now in
    let all = meaning c.args.tool c.args.words.now (world_at w old.inputs) in
    all_opened all (status_of all.good) old _ c.run.result (c.run.ensures.behavior w agrees)

pub returns-clause-stopped : goal.returns-clause-stopped
returns-clause-stopped g c = λ w agrees.
    let old = c.args.streams.now in
    let all = meaning c.args.tool c.args.words.now (world_at w old.inputs) in
    first_opened all (status_of all.good) old _ c.run.result (c.run.ensures.behavior w agrees)
