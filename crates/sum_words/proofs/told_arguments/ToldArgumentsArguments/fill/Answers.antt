use Rattle.sum_words.proofs.CommandLineLemmas.{agrees_after}
use Rattle.sum_words.proofs.told_arguments.ToldArgumentsArguments.fill.Goals as goal

-- the list agrees with this call, too
pub invariant_of-self : goal.invariant_of-self
invariant_of-self c = record {
  agrees = rw c.with_note-self.ensures.state (agrees_after c.args.self.now.log _ _ _ c.args.self.now.agrees
      (rw c.requires.place at c.fill_from-filled.ensures.fills));
}
