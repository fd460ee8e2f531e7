use Rattle.std.proofs.Common.{refl}
use Rattle.theorems.proofs.ToolLemmas.{by_name, by_none}
use Rattle.theorems.proofs.program.tool_found.Goals as goal

pub returns-clause-called : goal.returns-clause-called
returns-clause-called c = λ path words tool is. rw (is, by_name tool) refl

pub returns-clause-named : goal.returns-clause-named
returns-clause-named c = λ path words tool none. rw (by_none _ none, by_name tool) refl

pub returns-clause-unknown : goal.returns-clause-unknown
returns-clause-unknown c = λ path word words none others. rw (by_none _ none, by_none word others) refl

pub returns-clause-no_word : goal.returns-clause-no_word
returns-clause-no_word c = λ path none. rw (by_none _ none) refl
