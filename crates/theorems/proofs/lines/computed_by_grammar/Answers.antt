use Rattle.theorems.proofs.lines.computed_by_grammar.Goals as goal

pub returns-clause-entry : goal.returns-clause-entry
returns-clause-entry c = λ algos form line found. (c.parse_is_grammar.ensures.grammar algos form line).when_entry found
