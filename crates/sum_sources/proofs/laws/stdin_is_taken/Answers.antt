use Rattle.std.proofs.{Math.Logic.∥∥₁_elim, Props.props}
use Rattle.sum_sources.proofs.WithStdinLemmas.{taken_if}
use Rattle.sum_sources.proofs.laws.stdin_is_taken.Goals as goal

pub returns : goal.returns
returns g c = record {
  taken = ∥∥₁_elim c.args.inputs.now.is (hlevel props) (taken_if _ _ _ _ _);
}
