use Rattle.std.proofs.lemmas.Result.{on_ok_weaker}
use Rattle.sum_engine.specs.{Behavior.names_in, Execution.opened_names, Execution.world_at}
use Rattle.sum_engine.specs.{check.CheckOne.check_behavior}
use Rattle.theorems.proofs.{StdinLemmas.among, TextLemmas.all_opened}
use Rattle.theorems.proofs.one_operand.check_takes_stdin.Goals as goal

pub returns : goal.returns
returns g c = λ w agrees.
    let old = c.args.streams.now in
    let r = c.check_one-result.result in
    let all = check_behavior c.args.settings c.args.tool.now (world_at w old.inputs) c.args.name.now in
    let did = (rw (← c.streams.view_is, ← c.streams-inside.view_is) at c.check_one-result.ensures.behavior) w agrees in
    let opened = all_opened all all.good old _ r did in
    rw c.stdin_is_taken.ensures.taken (on_ok_weaker r
    (λ asked. rw asked (among (opened_names old.inputs) (names_in all))) opened)
