use Rattle.std.proofs.{Common.arith, Common.◌≡◌, Common.◌+◌, lemmas.Result.on_ok_weaker}
use Rattle.sum_engine.{proofs.BehaviorLemmas.kinds, specs.Behavior.answer_to, specs.Execution.world_at}
use Rattle.sum_engine.{specs.check.CheckOne.check_behavior}
use Rattle.sum_engine_tests.proofs.DashLemmas.{dashes, dashes-append, opened, check_opens}
use Rattle.sum_engine_tests.proofs.standard_input.check_once.Goals as goal

pub returns : goal.returns
returns g c = λ d.
    let old = c.args.streams.now in
    let r = c.check_one-result.result in
    let name = c.args.name.now in
    let w = world_at c.told_agree.ensures.world.0 old.inputs in
    let run = check_behavior c.args.settings c.args.tool.now w name in
    let did = (rw (← c.streams.view_is) at c.check_one-result.ensures.behavior) _ c.told_agree.ensures.world.1 in
    let (names, more, are, asked, all) = opened run.steps run.good old _ r did in
    let sum : dashes names + dashes more ≡ 1 =
    rw (← dashes-append, ← are, (kinds run.steps).0)
    (check_opens c.args.settings c.args.tool.now name _ (answer_to w name) d) in
    rw (← c.streams.view_is, asked, dashes-append) (on_ok_weaker r (λ none. grind (arith, rw none at sum)) all)
