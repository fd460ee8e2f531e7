use Rattle.std.proofs.Common.{arith}
use Rattle.theorems.proofs.steps.step_reads_near_line.Goals as goal

pub returns-clause-ahead : goal.returns-clause-ahead
returns-clause-ahead g c =
    let bounds = (c.step.ensures.step c.requires.going).advances.bounds in omega (arith, bounds.ahead, bounds.lines)

pub returns-clause-memory : goal.returns-clause-memory
returns-clause-memory g c = λ memory content fits w agrees.
    let h = ((c.step.ensures.step c.requires.going).step.reads c.requires.reading).holds content fits w agrees in
    (h.step, h.later, h.is, h.refused memory)
