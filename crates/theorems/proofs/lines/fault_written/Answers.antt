use Rattle.theorems.proofs.WriteLemmas.{writes}
use Rattle.theorems.proofs.lines.fault_written.Goals as goal

pub returns : goal.returns
returns g c = writes _ _ _ _ c.put_fault.ensures.text
