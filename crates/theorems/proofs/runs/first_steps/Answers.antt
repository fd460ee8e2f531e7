use Rattle.theorems.proofs.MemoryLemmas.{stops_before}
use Rattle.theorems.proofs.runs.first_steps.Goals as goal

pub returns : goal.returns
returns g c = λ memory w agrees. stops_before _ _ _ ((rw memory at c.run.ensures.behavior) w agrees)
