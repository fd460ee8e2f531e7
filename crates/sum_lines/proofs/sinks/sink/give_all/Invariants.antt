use Rattle.std.proofs.Common.{length}
use Rattle.sum_lines.proofs.OfferLemmas.{HasGiven}
use Rattle.sum_lines.proofs.sinks.sink.give_all.Given as goal

-- all but the rest of the bytes was given
abbrev pub invariant-loop-rest : goal.invariant-loop-rest
invariant-loop-rest g l = HasGiven (g.S.Sink.state l.fn.sink) (g.S.Sink.state l.sink) l.bytes l.rest

-- the rest gets shorter
abbrev pub decreases-loop-rest : goal.decreases-loop-rest
decreases-loop-rest g l = length l.rest
