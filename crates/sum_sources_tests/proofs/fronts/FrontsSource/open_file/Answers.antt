use Rattle.sum_sources.proofs.GaveLemmas.{open_gives}
use Rattle.sum_sources_tests.specs.Fronts.{fronts_state, tells_fronts}
use Rattle.sum_sources_tests.proofs.fronts.FrontsSource.open_file.Goals as goal

pub invariant_of-self : goal.invariant_of-self
invariant_of-self c =
    let s = c.args.self.now in
    let gives = open_gives tells_fronts (fronts_state s.text.now s.log) c.args.name.now s.gives in
    record { gives = rw c.with_note-self.ensures.state gives }
