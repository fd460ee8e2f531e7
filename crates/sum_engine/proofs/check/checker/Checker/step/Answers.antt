use Rattle.std.proofs.Common.{refl}
use Rattle.sum_engine.proofs.{StepLemmas.step_taken, check.checker.Checker.step.Goals.in-Ok-Going}
use Rattle.sum_engine.proofs.{check.checker.Checker.step.Goals.in-Ok-Ended, check.checker.Checker.step.Goals.in-Err}
use Rattle.sum_engine.proofs.check.checker.Checker.step.Goals as goal

-- a line or the end was found, and reported; or a stop was found
pub returns-clause-step : goal.returns-clause-step
returns-clause-step g c = rw (← c.self.view_is, ← c.streams.view_is) (λ none.
    let found = c.next-found.ensures in
    let verdict = found.verdict (c.self.invariant none) in
    let advances = found.advances (c.self.invariant none) in
    let reports = rw c.deref.ensures.value at c.report_found-result.ensures in
    elim c.match-result.branch [
      | in-Ok-Going w ↦ rw w.self-is (step_taken _ refl verdict advances reports)
      | in-Ok-Ended w ↦ rw w.self-is (step_taken _ refl verdict advances reports)
      | in-Err w ↦ rw w.self-is (step_taken _ refl verdict advances reports)
    ])
