use Rattle.std.proofs.Common.{arith}
use Rattle.sum_lines.{proofs.ParsedLineLemmas.matches, specs.grammar.ParsedLines.entry_of}
use Rattle.sum_lines.proofs.reading.read_line.read_line.Goals as goal

-- a line that begins neither with a tag nor with digits is bad
pub returns-in-None-clause-parsed : goal.returns-in-None-clause-parsed
unfolding entry_of
returns-in-None-clause-parsed g c = grind arith

-- the grammar says of a line what is computed of it
pub returns-in-None-clause-grammar : goal.returns-in-None-clause-grammar
returns-in-None-clause-grammar g c = matches (returns-in-None-clause-parsed g c)

-- what is computed of a line with a beginning is what the grammar says
pub returns-in-Some-clause-grammar : goal.returns-in-Some-clause-grammar
returns-in-Some-clause-grammar g c = matches (grind arith)

-- the grammar ignores what the code ignores
pub returns-then-is_ignored-clause-grammar : goal.returns-then-is_ignored-clause-grammar
returns-then-is_ignored-clause-grammar g c = matches (grind arith)
