use Rattle.std.proofs.Common.{[], Err}
use Rattle.sum_sources.specs.declared.fault.Fault.TheVariants.{NotFound}
use Rattle.theorems.proofs.moved_on.old_lines_say_the_same.Goals as goal

-- the law's lines are the same in every world
pub returns : goal.returns
returns c = λ rules labels content said old. (c.old_verdicts.ensures.verdicts rules labels
    (record { answer = λ name k. Err NotFound; opened = [] }) content old).lines said
