-- What a call did that ran out of memory.
use Rattle.std.specs.Prelude.{◌≡◌, ◌≢◌, ◌<◌, ◌+◌, ◌⊎◌, List, [], ◌∷◌, ◌++◌, filter_map, flat_map}
use Rattle.sum_engine.specs.{Behavior.Step, Behavior.trace, Execution.err_event, Execution.opened_names}
use Rattle.sum_engine.specs.{Execution.out_event, Streams.StreamsState}
use Rattle.sum_lines.specs.sinks.Output.{OffersEach}

-- why memory ran out: the source was refused it, once, and the next step opens a name; or bytes remained before that
abbrev pub IsCauseOfMemory : Step → StreamsState → StreamsState → Type 0
IsCauseOfMemory next before after = ((after.inputs.refusals ≡ before.inputs.refusals + 1) × (next.names ≢ []))
    ⊎ ((after.inputs.refusals ≡ before.inputs.refusals) × (0 < next.manifest_left))

-- of these steps the first n happened, and nothing else: their names were opened, and each output was offered the
-- pieces of their texts, and wrote these. The next one is why memory ran out
abbrev pub StopsBeforeStep : List Step → StreamsState → StreamsState → Type 0
StopsBeforeStep steps before after = (done : List Step) × (next : Step) × (later : List Step)
    × (steps ≡ done ++ next ∷ later)
    × (opened_names after.inputs ≡ opened_names before.inputs ++ flat_map (λ step. step.names) done)
    × (let old = before.outputs in let new = after.outputs in
    (new.out.written ≡ old.out.written ++ flat_map (λ step. step.out) done)
    × (new.err.written ≡ old.err.written ++ flat_map (λ step. step.err) done)
    × OffersEach old.out.offered new.out.offered (filter_map out_event (trace done))
    × OffersEach old.err.offered new.err.offered (filter_map err_event (trace done)))
    × IsCauseOfMemory next before after
