use Rattle.std.proofs.Common.{rules, Some, Err}
use Rattle.sum_sources.{proofs.GaveLemmas.open_gives, proofs.GaveLemmas.opening_gives}
use Rattle.sum_sources.{specs.sources.Source.answer_of_first, specs.sources.StoredAnswer.state_with_pairs}
use Rattle.sum_sources.proofs.sources.told_source.ToldSourceSource.open_file.Goals as goal

-- the fault is its answer
pub invariant_of-self-in-Fault-clause-gives : goal.invariant_of-self-in-Fault-clause-gives
invariant_of-self-in-Fault-clause-gives g c =
    let s = c.args.self.now in
    rw c.with_note-self-in-Fault.ensures.state
    (opening_gives answer_of_first (state_with_pairs s.pairs.items s.log) c.args.name.now
    (Some (Err c.in-Fault.fault)) (rw (← s.names) (search rules)) s.gives)

-- the file is open
pub invariant_of-self-in-Content-clause-gives : goal.invariant_of-self-in-Content-clause-gives
invariant_of-self-in-Content-clause-gives g c =
    let s = c.args.self.now in
    rw c.with_note-self-in-Content.ensures.state
    (open_gives answer_of_first (state_with_pairs s.pairs.items s.log) c.args.name.now s.gives)
