use Rattle.sum_lines.proofs.EventLemmas.{one_piece}
use Rattle.sum_lines.proofs.laws.one_piece.Goals as goal

pub returns : goal.returns
returns c = record { piece = one_piece }
