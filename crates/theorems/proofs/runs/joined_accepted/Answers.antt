use Rattle.theorems.proofs.runs.joined_accepted.Goals as goal

pub returns : goal.returns
returns c = λ written tool settings manifest files later world later_world has has_later algos checkable some fits is.
    let accepted = c.joined_is_good.ensures.accepted in
    let good = accepted written tool settings manifest files later world later_world has has_later algos
    checkable some fits is in
    (good.status, good.out, good.err)
