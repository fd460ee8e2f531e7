use Rattle.sum_engine.specs.{Execution.world_at, Generate.generate_behavior}
use Rattle.theorems.proofs.TextLemmas.{texts_written}
use Rattle.theorems.proofs.one_operand.name_hashed.Goals as goal

pub returns-clause-texts : goal.returns-clause-texts
returns-clause-texts g c = λ w agrees.
    let old = c.args.streams.now in
    let all = generate_behavior c.args.settings.now c.args.tool.now (world_at w old.inputs) c.args.name.now in
    texts_written all all.good old _ c.generate_one.result (c.generate_one.ensures.behavior w agrees)
