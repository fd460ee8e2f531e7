use Rattle.theorems.proofs.one_operand.stopped_near_line.Goals as goal

pub returns : goal.returns
returns g c = λ stop is w agrees content opened reads closed.
    let at = (rw is at c.check_one.ensures.ahead) w agrees content opened reads closed in
    (at.done, at.next, at.later, at.between, at.are, at.happened, at.stopped, at.read)
