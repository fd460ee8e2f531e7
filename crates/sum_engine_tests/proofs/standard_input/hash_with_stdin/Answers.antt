use Rattle.std.{proofs.Common.arith, proofs.Common.◌≡◌, proofs.Common.◌+◌, proofs.lemmas.Slice.Eq.bytes_eq-Decides}
use Rattle.std.{specs.Prelude.if◌then◌else◌}
use Rattle.sum_sources.specs.sources.WithStdin.{is_dash}
use Rattle.sum_engine.{proofs.BehaviorLemmas.kinds, specs.Execution.world_at, specs.Generate.generate_behavior}
use Rattle.sum_engine_tests.proofs.DashLemmas.{dashes, dashes-append, opened}
use Rattle.sum_engine_tests.proofs.standard_input.hash_with_stdin.Goals as goal

pub returns : goal.returns
returns g c =
    let name = c.args.name.now in
    let old = c.args.streams.now in
    let r = c.generate_one-result.result in
    let run = generate_behavior c.args.settings.now c.args.tool.now
    (world_at c.told_agree.ensures.world.0 old.inputs) name in
    let did = (rw (← c.streams.view_is, ← c.streams-inside.view_is) at c.generate_one-result.ensures.behavior) _
    (rw (← c.streams-inside.view_is) at c.told_agree.ensures.world.1) in
    let (names, more, are, asked, all) = opened run.steps run.good old _ r did in
    let sum : dashes names + dashes more ≡ (if is_dash name then 1 else 0) =
    rw (← dashes-append, ← are, (kinds run.steps).0) (grind (arith, bytes_eq-Decides)) in
    λ d. rw (c.stdin_is_taken.ensures.taken, asked, dashes-append) (grind (arith, rw d at sum))
