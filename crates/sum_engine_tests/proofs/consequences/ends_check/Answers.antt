use Rattle.sum_sources.specs.LineReader.{remaining_content}
use Rattle.sum_engine.{proofs.CheckLinesLemmas.last_step, specs.Execution.world_at, specs.check.Verdicts.state_at}
use Rattle.sum_engine_tests.proofs.EndLemmas.{none_before, none_after}
use Rattle.sum_engine_tests.proofs.consequences.ends_check.Goals as goal

pub returns-clause-before : goal.returns-clause-before
returns-clause-before g c = λ good is m of w agrees.
    let checks = (c.step.ensures.step c.requires.going).step.reads c.requires.reading in
    let took = rw is at (checks.holds m of w agrees) in
    let p = c.args.checker.now.verdicts in
    let here = state_at p (remaining_content p.reader m) (world_at w c.args.streams.now.inputs) in
    none_before p.rules c.args.checker.now.labels here took.step took.later took.is (last_step took).0

pub returns-clause-after : goal.returns-clause-after
returns-clause-after g c = λ good is m of.
    let took = c.step.ensures.step c.requires.going in
    none_after c.args.checker.now.labels took.found _ _ good (rw is at took.reports) took.advances
    (took.step.reads c.requires.reading).reading m of
