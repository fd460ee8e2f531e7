use Rattle.sum_sources.specs.LineReader.{remaining_content}
use Rattle.sum_engine.specs.{Execution.world_at, check.Verdicts.next_judged, check.Verdicts.state_at}
use Rattle.sum_engine_tests.proofs.consequences.takes_line.Goals as goal

pub returns-in-Ok-Some : goal.returns-in-Ok-Some
returns-in-Ok-Some g c = λ is m of w agrees.
    let checks = rw c.in-Ok-Some.field-0-is at (c.in-Ok-Some.ensures.verdict c.requires.going) in
    let h = ((checks.reads c.requires.reading).holds m of w agrees).1 in
    let p = c.args.verdicts.now in
    let here = state_at p (remaining_content p.reader m) (world_at w c.args.inputs.now) in
    (h.line, (next_judged p.rules here h.line).verdict, h.number, h.form, h.counts)
