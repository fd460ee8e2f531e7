use Rattle.std.proofs.Common.{false, [], ap}
use Rattle.sum_engine.specs.Streams.{StreamsState}
use Rattle.sum_words.specs.messages.FaultLines.{fault_lines}
use Rattle.theorems.proofs.MemoryLemmas.{always_memory}
use Rattle.theorems.proofs.stops.memory_for_texts.Goals as goal

-- in a world that agrees with what was read by the end
pub returns-clause-fault : goal.returns-clause-fault
returns-clause-fault g c = λ fault is memory.
    let (w, agrees, are) = rw (ap (λ (s : StreamsState). s.inputs) c.streams.view_is) at c.told_agree.ensures.world in
    always_memory (fault_lines c.args.tool fault) [] false ((rw (memory, is) at c.run-result.ensures.behavior) w agrees)
