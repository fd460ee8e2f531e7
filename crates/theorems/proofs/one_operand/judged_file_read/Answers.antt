use Rattle.std.proofs.Common.{arith, ◌≡◌, ◌∙◌, ◌∷◌, [], ap, false, inl, inr, refl, sym, Ok, Some}
use Rattle.std.{proofs.lemmas.List.Elements.All-weaker, specs.Prelude.⊤}
use Rattle.sum_engine.specs.{Execution.ReadsFile, check.Judge.asks_by, check.Judge.is_unread}
use Rattle.sum_engine.specs.{check.Judge.line_verdict_value, check.Verdicts.IsNotUnread}
use Rattle.sum_sources.specs.sources.Source.{Opening, names_of}
use Rattle.theorems.proofs.StepLemmas.{later_names}
use Rattle.theorems.proofs.one_operand.judged_file_read.Goals as goal

pub returns : goal.returns
returns g c = λ found is judged.
    let h = rw is at (c.next.ensures.advances c.requires) in
    let read : is_unread found.verdict ≡ false =
    elim judged [ inl right ↦ rw right refl | inr wrong ↦ rw wrong refl ] in
    let (more, are, all) = h.reads.openings in
    let whole : (o : Opening) → ReadsFile (IsNotUnread (Ok (Some found))) o → ReadsFile ⊤ o =
    λ o file. grind (arith, file, read) in
    let name = (line_verdict_value c.next.new.line.items found).name in
    let asks : asks_by found.verdict name ≡ name ∷ [] =
    elim judged [ inl right ↦ rw right refl | inr wrong ↦ rw wrong refl ] in
    let names = later_names c.args.inputs.now.openings more _ (sym (ap names_of are) ∙ h.opened.opened) in
    (more, are, All-weaker _ _ whole more all, names ∙ asks)
