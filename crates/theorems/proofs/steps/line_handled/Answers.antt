use Rattle.theorems.proofs.steps.line_handled.Goals as goal

pub returns : goal.returns
returns g c = λ going content fits w agrees.
    let taken = ((c.step.ensures.step c.requires.going).step.reads c.requires.reading).holds content fits w agrees in
    let h = (taken.going going).1 in
    (h.line, h.lines, h.form, h.number, h.consumed, h.vector_len)
