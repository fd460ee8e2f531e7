use Rattle.std.proofs.Common.{refl}
use Rattle.sum_sources.{proofs.GaveLemmas.closing_gives, specs.inputs.Input.InputState}
use Rattle.sum_sources.{specs.inputs.InputLaws.told_has_content, specs.inputs.Told.told_state}
use Rattle.sum_sources.{specs.inputs.Told.told_view}
use Rattle.sum_sources_tests.specs.Fronts.{fronts_state, tells_fronts}
use Rattle.sum_sources_tests.proofs.fronts.FrontsSource.close_file.Goals as goal

pub invariant_of-self : goal.invariant_of-self
invariant_of-self c =
    let s = c.args.self.now in
    let told = told_view c.args.file.told in
    let log = c.args.file.log in
    let file : InputState = record (told_state told) { name = log.name; nth = log.nth } in
    let gives = closing_gives tells_fronts (fronts_state s.text.now s.log) file _ (told_has_content told)
    c.requires.told refl s.gives in
    record { gives = rw (c.with_note-self.ensures.state, c.args.file.same) gives }
