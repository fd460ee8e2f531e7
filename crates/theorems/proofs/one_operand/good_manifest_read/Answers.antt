use Rattle.sum_engine.specs.{Execution.world_at, check.CheckOne.check_behavior}
use Rattle.theorems.proofs.TextLemmas.{all_opened, first_opened}
use Rattle.theorems.proofs.one_operand.good_manifest_read.Goals as goal

pub returns-clause-names : goal.returns-clause-names
returns-clause-names g c = λ w agrees.
    let old = c.args.streams.now in
    let r = c.check_one.result in
    let all = check_behavior c.args.settings c.args.tool.now (world_at w old.inputs) c.args.name.now in
    let did = c.check_one.ensures.behavior w agrees in
    (all_opened all all.good old _ r did, first_opened all all.good old _ r did)
