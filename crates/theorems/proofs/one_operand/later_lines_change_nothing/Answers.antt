use Rattle.std.proofs.Common.{[], Err}
use Rattle.sum_engine.specs.Behavior.{World}
use Rattle.sum_sources.specs.declared.fault.Fault.TheVariants.{NotFound}
use Rattle.theorems.proofs.one_operand.later_lines_change_nothing.Goals as goal

-- a world without files
abbrev nothing : World
nothing = record { answer = λ name k. Err NotFound; opened = [] }

pub returns-clause-entry : goal.returns-clause-entry
returns-clause-entry c = λ r before line later others.
    (c.same_front.ensures.front r nothing before line later others).entry

pub returns-clause-form : goal.returns-clause-form
returns-clause-form c = λ r before line later others.
    (c.same_front.ensures.front r nothing before line later others).form
