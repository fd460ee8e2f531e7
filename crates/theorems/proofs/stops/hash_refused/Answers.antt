use Rattle.std.proofs.Common.{ap}
use Rattle.sum_engine.specs.{Behavior.answer_to, Behavior.digest_or_fault, Execution.world_at, Streams.StreamsState}
use Rattle.theorems.proofs.MemoryLemmas.{outputs_kept}
use Rattle.theorems.proofs.stops.hash_refused.Goals as goal

-- in a world that agrees with what was read by the end
pub returns-clause-outputs : goal.returns-clause-outputs
returns-clause-outputs g c = λ memory.
    let (w, agrees, are) = rw (ap (λ (s : StreamsState). s.inputs) c.streams.view_is) at c.told_agree.ensures.world in
    let settings = c.args.settings.now in
    let name = c.args.name.now in
    outputs_kept settings c.args.tool.now name
    (digest_or_fault settings.kind (answer_to (world_at w c.args.streams.now.inputs) name))
    ((rw memory at c.generate_one-result.ensures.behavior) w agrees)
    (rw memory at c.generate_one-result.ensures.failures)
