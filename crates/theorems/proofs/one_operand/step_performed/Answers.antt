use Rattle.theorems.proofs.one_operand.step_performed.Goals as goal

pub returns : goal.returns
returns g c = λ content fits w agrees.
    let checks = (c.step.ensures.step c.requires.going).step.reads c.requires.reading in
    let h = checks.holds content fits w agrees in
    (h.step, h.later, h.is, h.performs)
