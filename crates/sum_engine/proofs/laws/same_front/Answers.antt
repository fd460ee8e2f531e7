use Rattle.sum_engine.proofs.SameFrontLemmas.{same_front}
use Rattle.sum_engine.proofs.laws.same_front.Goals as goal

pub returns : goal.returns
returns c = record { front = same_front }
