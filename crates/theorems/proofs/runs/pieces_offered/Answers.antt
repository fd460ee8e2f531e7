use Rattle.theorems.proofs.runs.pieces_offered.Goals as goal

pub returns-clause-failed : goal.returns-clause-failed
returns-clause-failed g c = λ failed w agrees.
    let (front, rest, are, did) = (rw failed at c.run.ensures.behavior) w agrees in
    (front, rest, (are, did.out.offered, did.err.offered))
