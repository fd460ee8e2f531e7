use Rattle.sum_engine.proofs.VerdictJoinLemmas.{returned_none, returned_line, returned_last}
use Rattle.sum_engine.proofs.laws.verdicts_join.Goals as goal

pub returns-clause-start : goal.returns-clause-start
returns-clause-start g c = returned_none

pub returns-clause-line : goal.returns-clause-line
returns-clause-line g c = λ first old new before between after returned vector found so_far next.
    returned_line so_far found next

pub returns-clause-end : goal.returns-clause-end
returns-clause-end g c = λ first old new before between after returned vector result input so_far next.
    returned_last so_far result input next
