use Rattle.theorems.proofs.WriteLemmas.{offered_all, offered_front, written_all}
use Rattle.theorems.proofs.lines.buffer_flushed.Goals as goal

pub returns-clause-ok : goal.returns-clause-ok
returns-clause-ok g c = offered_all _ _ _ _ c.flush.ensures.gives

pub returns-clause-written : goal.returns-clause-written
returns-clause-written g c = written_all _ _ _ _ c.flush.ensures.gives

pub returns-clause-err : goal.returns-clause-err
returns-clause-err g c = offered_front _ _ _ _ c.flush.ensures.gives
