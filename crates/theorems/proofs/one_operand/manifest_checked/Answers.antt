use Rattle.sum_engine.specs.{Execution.world_at, check.CheckOne.check_behavior}
use Rattle.theorems.proofs.TextLemmas.{texts_written}
use Rattle.theorems.proofs.one_operand.manifest_checked.Goals as goal

pub returns-clause-texts : goal.returns-clause-texts
returns-clause-texts g c = λ w agrees.
    let old = c.args.streams.now in
    let all = check_behavior c.args.settings c.args.tool.now (world_at w old.inputs) c.args.name.now in
    texts_written all all.good old _ c.check_one.result (c.check_one.ensures.behavior w agrees)
