use Rattle.std.proofs.Common.{ap}
use Rattle.theorems.proofs.moved_on.old_manifests_stay.Goals as goal

pub returns-clause-verdicts : goal.returns-clause-verdicts
returns-clause-verdicts c = λ rules labels world content said old once.
    (c.old_verdicts.ensures.verdicts rules labels world content old).verdicts said once

pub returns-clause-steps : goal.returns-clause-steps
returns-clause-steps c = λ rules labels world content said old once.
    ap (λ b. b.steps) ((c.old_verdicts.ensures.verdicts rules labels world content old).behavior said once)

pub returns-clause-good : goal.returns-clause-good
returns-clause-good c = λ rules labels world content said old once.
    ap (λ b. b.good) ((c.old_verdicts.ensures.verdicts rules labels world content old).behavior said once)
