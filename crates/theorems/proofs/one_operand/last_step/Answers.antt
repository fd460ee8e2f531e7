use Rattle.std.proofs.Common.{Ok, Err}
use Rattle.theorems.proofs.one_operand.last_step.Goals as goal

pub returns-clause-ended : goal.returns-clause-ended
returns-clause-ended c = λ r labels m w b d s t z vectors vector good going ended.
    let joined = c.steps_join.ensures.steps r labels m w b s t vectors going in
    let did = joined.last (Ok good) vector d z ended in
    (joined.lines good vector d z ended, did.0, did.1)

pub returns-clause-stopped : goal.returns-clause-stopped
returns-clause-stopped c = λ r labels m w b d s t z vectors vector stop going stopped.
    (c.steps_join.ensures.steps r labels m w b s t vectors going).last (Err stop) vector d z stopped
