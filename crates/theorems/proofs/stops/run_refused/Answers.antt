use Rattle.std.proofs.Common.{ap}
use Rattle.sum_engine.specs.Streams.{StreamsState}
use Rattle.sum_words.specs.Tool.{name_of}
use Rattle.digests.specs.ToolRun.{names_or_dash}
use Rattle.theorems.proofs.MemoryLemmas.{refused_once}
use Rattle.theorems.proofs.stops.run_refused.Goals as goal

-- in a world that agrees with what was read by the end
pub returns-clause-hashing : goal.returns-clause-hashing
returns-clause-hashing g c = λ settings names is memory.
    let (w, agrees, are) = rw (ap (λ (s : StreamsState). s.inputs) c.streams.view_is) at c.told_agree.ensures.world in
    refused_once settings (name_of c.args.tool) _ (names_or_dash names)
    ((rw (memory, is) at c.run-result.ensures.behavior) w agrees)
