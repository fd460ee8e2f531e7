use Rattle.sum_lines.proofs.EntryLemmas.{one_form}
use Rattle.sum_lines.proofs.laws.one_form.Goals as goal

pub returns : goal.returns
returns c = record { form = one_form }
