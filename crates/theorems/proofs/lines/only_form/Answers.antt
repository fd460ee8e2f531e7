use Rattle.std.proofs.Common.{refl}
use Rattle.sum_lines.specs.grammar.Form.{form_of}
use Rattle.theorems.proofs.lines.only_form.Goals as goal

pub returns-clause-some : goal.returns-clause-some
returns-clause-some c = λ algos lines. (form_of algos lines, (c.one_form.ensures.form algos lines _).1 refl)

pub returns-clause-computed : goal.returns-clause-computed
returns-clause-computed c = λ algos lines. (c.one_form.ensures.form algos lines _).1 refl
