use Rattle.theorems.proofs.steps.verdict_found.Goals as goal

pub returns-clause-end : goal.returns-clause-end
returns-clause-end g c = λ is content fits w agrees.
    let step = c.next.ensures.verdict c.requires.going in
    let h = rw is at ((step.reads c.requires.reading).holds content fits w agrees) in
    (h.verdicts, h.ending, rw is at (c.next.ensures.advances c.requires.going).opened)

pub returns-clause-fault : goal.returns-clause-fault
returns-clause-fault g c = λ fault is content fits w agrees.
    let step = c.next.ensures.verdict c.requires.going in
    let h = rw is at ((step.reads c.requires.reading).holds content fits w agrees) in
    (h.verdicts, h.ending, rw is at (c.next.ensures.advances c.requires.going).opened)
