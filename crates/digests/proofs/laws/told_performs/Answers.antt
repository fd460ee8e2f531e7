use Rattle.std.proofs.Common.{[]}
use Rattle.sum_engine.proofs.WorldLaws.{all_agree}
use Rattle.digests.proofs.laws.told_performs.Goals as goal

-- the world of the files in memory is one that agrees
pub returns : goal.returns
returns g c = record {
  meaning = rw (← c.streams.view_is) (λ tool words answer a r all did reads.
      did (record { answer = answer; opened = [] })
      (all_agree g.S.Source.tells c.streams.inside.inputs answer c.told_agree.ensures.world
      (rw (← reads.told) at all)));
}
