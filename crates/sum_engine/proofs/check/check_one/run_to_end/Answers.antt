use Rattle.std.proofs.Common.{arith, refl, Ok, Err}
use Rattle.sum_engine.proofs.{CheckLinesLemmas.runs_last, CheckLinesLemmas.runs_more, CheckLinesLemmas.runs_manifest}
use Rattle.sum_engine.proofs.{check.check_one.run_to_end.Goals.in-Ok-Ended, check.check_one.run_to_end.Goals.in-Err}
use Rattle.sum_engine.proofs.check.check_one.run_to_end.Goals as goal

-- a run from the start is one from the start
pub lines-init : goal.lines-init
lines-init g c = record { going = c.requires.outcome; runs = λ last o x run. run }

-- the end was handled, or a step stopped
pub returns : goal.returns
returns g c =
    let so_far = c.lines.invariant in
    rw c.into_inner.ensures.input (elim c.match-step.branch [
      | in-Ok-Ended w ↦
          let done = rw w.in-Ok-Ended.field-0-is at (w.in-Ok-Ended.ensures.step so_far.going) in
          rw w.result-is (runs_manifest c.requires.start (so_far.runs _ _ _ (runs_last (Ok _) done)))
      | in-Err w ↦
          let done = w.in-Err.ensures.step so_far.going in
          rw w.result-is (runs_manifest c.requires.start (so_far.runs _ _ _ (runs_last (Err _) done)))
    ])

-- one more line was handled
pub lines-preserved : goal.lines-preserved
lines-preserved g c =
    let so_far = c.lines.invariant in
    let done = rw c.in-Ok-Going.field-0-is at (c.in-Ok-Going.ensures.step so_far.going) in
    record {
      going = rw c.in-Ok-Going.field-0-is at c.in-Ok-Going.ensures.outcome.kept;
      runs = λ last o x run. so_far.runs last o x (runs_more x done run);
    }

-- each line is counted, below the limit
pub lines-smaller : goal.lines-smaller
lines-smaller g c =
    let done = rw c.in-Ok-Going.field-0-is at (c.in-Ok-Going.ensures.step c.lines.invariant.going) in
    omega (arith, done.lines refl, done.advances.bounds)
