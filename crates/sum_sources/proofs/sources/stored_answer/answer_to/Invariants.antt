use Rattle.std.proofs.Common.{◌≡◌, drop, map}
use Rattle.sum_sources.specs.sources.{Source.first_answer, StoredAnswer.pair_view}
use Rattle.sum_sources.proofs.sources.stored_answer.answer_to.Given as goal

-- none of the pairs so far has the name
abbrev pub invariant-loop-pair : goal.invariant-loop-pair
invariant-loop-pair g l = first_answer (map pair_view (drop l.pair-index l.pairs)) l.name l.before
    ≡ first_answer (map pair_view l.pairs) l.name l.before
