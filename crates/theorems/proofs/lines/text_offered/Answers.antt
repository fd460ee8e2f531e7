use Rattle.theorems.proofs.WriteLemmas.{offered_all, offered_front}
use Rattle.theorems.proofs.lines.text_offered.Goals as goal

pub returns-clause-ok : goal.returns-clause-ok
returns-clause-ok g c = offered_all _ _ _ _ c.write.ensures.text

pub returns-clause-err : goal.returns-clause-err
returns-clause-err g c = offered_front _ _ _ _ c.write.ensures.text
