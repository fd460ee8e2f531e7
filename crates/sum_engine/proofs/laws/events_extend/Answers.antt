use Rattle.sum_engine.proofs.BehaviorLemmas.{events_extend}
use Rattle.sum_engine.proofs.laws.events_extend.Goals as goal

pub returns : goal.returns
returns c = record { events = events_extend }
