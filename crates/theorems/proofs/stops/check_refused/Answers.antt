use Rattle.theorems.proofs.MemoryLemmas.{stops_before}
use Rattle.theorems.proofs.stops.check_refused.Goals as goal

pub returns-clause-cause : goal.returns-clause-cause
returns-clause-cause g c = λ memory w agrees.
    stops_before _ _ _ ((rw memory at c.check_one-result.ensures.behavior) w agrees)
