use Rattle.theorems.proofs.OldListLemmas.{standard_list, reversed_list}
use Rattle.theorems.proofs.moved_on.old_manifests_exist.Goals as goal

pub returns-clause-standard : goal.returns-clause-standard
returns-clause-standard c = λ rules labels kind digits digest one has size spelled own.
    let is = standard_list rules labels kind digits digest one has size spelled own in (is.old, is.form, is.says)

pub returns-clause-reversed : goal.returns-clause-reversed
returns-clause-reversed c = λ rules labels kind digits digest one has size spelled own.
    let is = reversed_list rules labels kind digits digest one has size spelled own in (is.old, is.form, is.says)
