use Rattle.std.proofs.Common.{length}
use Rattle.sum_lines.{proofs.SinkLemmas.HasLeft, specs.Escape.escape}
use Rattle.sum_lines.proofs.escape.put_escaped.Given as goal

-- all but the escape of the rest was accepted
abbrev pub invariant-loop-at : goal.invariant-loop-at
invariant-loop-at g l = HasLeft l.fn.sink l.sink (escape l.name) (escape l.rest)

-- the rest gets shorter
abbrev pub decreases-loop-at : goal.decreases-loop-at
decreases-loop-at g l = length l.rest
