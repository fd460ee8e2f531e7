use Rattle.std.proofs.lemmas.Result.{err_from_is_err_and}
use Rattle.sum_lines.proofs.SinkLemmas.{given_after, not_given}
use Rattle.sum_lines.proofs.sinks.output.Output.write.Goals as goal

-- the text could not be written
pub returns-in_err-put : goal.returns-in_err-put
returns-in_err-put g c =
    let stop = err_from_is_err_and c.from_residual.result c.from_residual.ensures.1 in
    record { text = rw (← c.self.view_is, stop.1) (rw c.self.invariant.0 at (not_given c.in_err-put.ensures.text)) }

-- the text was written, and then the sink was flushed
pub returns : goal.returns
returns g c = record {
  text = rw (← c.self.view_is) (rw c.self.invariant.0 at
      (given_after _ _ c.flush.result c.in_ok-put.ensures.text c.flush.ensures.gives));
}
