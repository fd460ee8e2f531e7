use Rattle.std.proofs.{Common.[], Common.append-nil, Common.sym, Common.arith, lemmas.Grind.common_steps}
use Rattle.sum_lines.proofs.SinkLemmas.{HasLeft-step, HasLeft-failed}
use Rattle.sum_lines.proofs.sinks.buffered.put_all.Goals as goal

-- the write of a piece of the rest failed
pub returns-in_err-count : goal.returns-in_err-count
returns-in_err-count g c = record {
  text = HasLeft-failed [] _ c.loop-rest.invariant
      (sym (append-nil _)) c.in_err-count.ensures c.from_residual.ensures.0;
}

-- the buffer accepted a prefix of the rest
pub loop-rest-preserved : goal.loop-rest-preserved
loop-rest-preserved g c = HasLeft-step _ c.loop-rest.invariant (grind (arith, common_steps)) c.in_ok-count.ensures.2
