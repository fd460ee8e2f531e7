use Rattle.std.proofs.{Common.sym, Math.Logic.∥∥₁_elim, Props.props}
use Rattle.sum_sources.proofs.sources.with_stdin.WithStdin.source.Goals as goal

pub returns-clause-others : goal.returns-clause-others
returns-clause-others g c = ∥∥₁_elim c.args.self.now.is (hlevel props) (λ kept. sym kept.files)
