use Rattle.sum_engine.proofs.OldVerdicts.{old_verdicts, older_differs}
use Rattle.sum_engine.proofs.laws.old_verdicts.Goals as goal

pub returns-clause-verdicts : goal.returns-clause-verdicts
returns-clause-verdicts c = old_verdicts

pub returns-clause-differs : goal.returns-clause-differs
returns-clause-differs c = older_differs
