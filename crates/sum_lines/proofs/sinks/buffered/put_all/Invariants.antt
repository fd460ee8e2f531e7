use Rattle.std.proofs.Common.{length}
use Rattle.sum_lines.proofs.SinkLemmas.{HasLeft}
use Rattle.sum_lines.proofs.sinks.buffered.put_all.Given as goal

-- all but the rest of the bytes was accepted
abbrev pub invariant-loop-rest : goal.invariant-loop-rest
invariant-loop-rest g l = HasLeft l.fn.sink l.sink l.bytes l.rest

-- the rest gets shorter
abbrev pub decreases-loop-rest : goal.decreases-loop-rest
decreases-loop-rest g l = length l.rest
