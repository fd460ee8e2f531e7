use Rattle.std.proofs.Common.{length, take, true}
use Rattle.sum_engine.specs.{Behavior.Behavior, check.CheckOne.content_behavior, check.Judge.all_verdicts}
use Rattle.sum_engine.specs.{check.Verdicts.initial_state}
use Rattle.theorems.proofs.StepLemmas.{lines_taken}
use Rattle.theorems.proofs.one_operand.steps_so_far.Goals as goal

-- the steps that happened are a behavior of their own
pub returns : goal.returns
returns c = λ r labels m w b s t vectors going.
    let steps = take (length vectors) (content_behavior r labels m (all_verdicts r w m)).steps in
    let did : Behavior = record { steps = steps; good = true } in
    let joined = c.steps_join.ensures.steps r labels m w b s t vectors going in
    let (asked, err, out) = c.events_extend.ensures.events did s t joined.happened in
    let lines = lines_taken r labels (initial_state m w) b s t vectors going in
    (lines, asked.opened, err, out, joined.taken, joined.vector_lens)
