use Rattle.std.proofs.Common.{arith}
use Rattle.sum_sources.proofs.GaveLemmas.{is_same}
use Rattle.sum_sources_tests.proofs.callers.one_file.Goals as goal

pub returns : goal.returns
returns g c = λ k. grind (
  arith,
  c.new-files.ensures.state,
  c.in_ok-add.ensures.ok,
  c.add-2.ensures.ok,
  c.add-2.ensures.err,
  is_same c.args.name.now,
)
