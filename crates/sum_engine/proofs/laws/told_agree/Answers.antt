use Rattle.sum_engine.proofs.WorldLaws.{told_agree}
use Rattle.sum_engine.proofs.laws.told_agree.Goals as goal

-- by the law of the source
pub returns : goal.returns
returns g c = record {
  world = rw (← c.inputs.view_is)
      (told_agree g.S.Source.tells _ (g.met.S.Source.gives_told c.inputs.inside.source));
}
