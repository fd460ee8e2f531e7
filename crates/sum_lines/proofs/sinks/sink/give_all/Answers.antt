use Rattle.std.proofs.{Common.rules, lemmas.List.take_rest, lemmas.List.nil_from_length}
use Rattle.std.proofs.{lemmas.Result.err_from_is_err_and}
use Rattle.sum_lines.proofs.OfferLemmas.{HasGiven-none, HasGiven-more, HasGiven-all, HasGiven-failed}
use Rattle.sum_lines.proofs.sinks.sink.give_all.Goals as goal

-- nothing was offered yet
pub loop-rest-init : goal.loop-rest-init
loop-rest-init g c = HasGiven-none _ _ c.requires

-- a write failed
pub returns-in_err-count-clause-gives : goal.returns-in_err-count-clause-gives
returns-in_err-count-clause-gives g c =
    let stop = err_from_is_err_and c.from_residual.result c.from_residual.ensures.1 in
    rw stop.1 (HasGiven-failed _ c.loop-rest.invariant (search rules) c.in_err-count.ensures.bytes)

-- the sink accepted a prefix of the rest
pub loop-rest-preserved : goal.loop-rest-preserved
loop-rest-preserved g c =
    let rest = c.loop-rest.rest.now in
    rw (take_rest rest c.in_ok-count.count)
    (HasGiven-more rest c.in_ok-count.count c.loop-rest.invariant (search rules) c.in_ok-count.ensures.bytes)

-- the sink accepted all of the bytes
pub returns-clause-gives : goal.returns-clause-gives
returns-clause-gives g c = HasGiven-all _ c.loop-rest.invariant (nil_from_length c.loop-rest.rest.now (search rules))
