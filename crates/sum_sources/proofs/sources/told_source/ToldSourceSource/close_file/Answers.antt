use Rattle.std.{proofs.Common.◌≡◌, proofs.Common.Some, proofs.Common.Ok, proofs.Common.Err, proofs.Common.refl}
use Rattle.std.{proofs.Common.ap, specs.Result.result_ok}
use Rattle.sum_sources.proofs.GaveLemmas.{names-closed, closing_gives}
use Rattle.sum_sources.specs.{inputs.Input.Content, inputs.InputLaws.told_has_content, inputs.Told.told_state}
use Rattle.sum_sources.specs.{inputs.Told.told_view, sources.Source.AnswerValue, sources.Source.answer_of_first}
use Rattle.sum_sources.specs.{sources.StoredAnswer.state_with_pairs}
use Rattle.sum_sources.proofs.sources.told_source.ToldSourceSource.close_file.Goals as goal

-- the answer that has this content
has_content : (answer : AnswerValue) (c : Content) → Some c ≡ result_ok answer → answer ≡ Ok c
has_content (Ok d) c is = cc
has_content (Err f) c is = cc

-- the names that were opened stay
pub invariant_of-self-clause-names : goal.invariant_of-self-clause-names
invariant_of-self-clause-names g c = rw (c.with_note-self.ensures.state, names-closed) c.args.self.now.names

-- what was read of the file fits its content
pub invariant_of-self-clause-gives : goal.invariant_of-self-clause-gives
invariant_of-self-clause-gives g c =
    let s = c.args.self.now in
    let file = told_view c.args.file in
    rw (c.with_note-self.ensures.state, c.log.ensures) (closing_gives answer_of_first
    (state_with_pairs s.pairs.items s.log) (told_state file) file.content (told_has_content file) refl
    (ap Some (has_content _ file.content c.requires.told)) s.gives)
