use Rattle.sum_lines.proofs.ParsedLineLemmas.{parse_is_grammar}
use Rattle.sum_lines.proofs.laws.parse_is_grammar.Goals as goal

pub returns : goal.returns
returns c = record { grammar = parse_is_grammar }
