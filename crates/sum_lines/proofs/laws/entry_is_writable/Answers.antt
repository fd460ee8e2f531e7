use Rattle.sum_lines.proofs.WritableLemmas.{entry_is_writable}
use Rattle.sum_lines.proofs.laws.entry_is_writable.Goals as goal

pub returns : goal.returns
returns c = record { writable = entry_is_writable }
