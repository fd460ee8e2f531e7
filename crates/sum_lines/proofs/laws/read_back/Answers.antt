use Rattle.sum_lines.proofs.PutLineLemmas.{read_back}
use Rattle.sum_lines.proofs.laws.read_back.Goals as goal

pub returns : goal.returns
returns c = record { line = read_back }
