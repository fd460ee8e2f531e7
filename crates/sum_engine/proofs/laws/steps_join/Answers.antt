use Rattle.sum_engine.proofs.JoinLemmas.{steps_join}
use Rattle.sum_engine.proofs.laws.steps_join.Goals as goal

pub returns : goal.returns
returns c = record { steps = steps_join }
