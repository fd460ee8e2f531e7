use Rattle.std.{proofs.Common.rules, proofs.Common.◌≡◌, proofs.Common.◌∷◌, proofs.Common.◌++◌, proofs.Common.[]}
use Rattle.std.{proofs.Common.Some, proofs.Common.map, proofs.lemmas.List.map-append, specs.Result.is_ok}
use Rattle.sum_sources.{proofs.GaveLemmas.true_or_false, proofs.ToldSourceLemmas.adding_gives}
use Rattle.sum_sources.{specs.sources.Source.ToldAnswer, specs.sources.StoredAnswer.state_with_pairs}
use Rattle.sum_sources.{specs.sources.StoredAnswer.pair_view, specs.sources.StoredAnswer.answer_view}
use Rattle.sum_sources.proofs.sources.told_source.ToldSource.add.Goals as goal

-- the pair answers from the next opening of its name on
pub invariant_of-self-clause-gives : goal.invariant_of-self-clause-gives
invariant_of-self-clause-gives g c =
    let s = c.args.self.now in
    let p : ToldAnswer = record {
      name = c.in_ok-name.name.items;
      from = c.times-from.result;
      answer = Some (answer_view c.args.answer);
    } in
    true_or_false (is_ok c.push.result)
    (λ ok. let is : map pair_view c.push.new.self.items ≡ map pair_view s.pairs.items ++ p ∷ [] =
    rw (c.push.ensures.items, ok, map-append) (search rules) in
    rw is (adding_gives (state_with_pairs s.pairs.items s.log) p
    (rw (← s.names, c.in_ok-name.ensures.items) (search rules)) s.gives))
    (λ no. rw (rw no at c.push.ensures.items) s.gives)
