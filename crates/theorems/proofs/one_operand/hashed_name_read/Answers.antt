use Rattle.std.proofs.Common.{◌∷◌, ◌∙◌, [], ap, sym}
use Rattle.std.proofs.lemmas.Result.{on_ok_weaker}
use Rattle.sum_engine.specs.{Behavior.answer_to, Behavior.digest_or_fault, Execution.world_at, Streams.StreamsState}
use Rattle.sum_sources.specs.sources.Source.{names_of}
use Rattle.theorems.proofs.{StdinLemmas.name_opened, StepLemmas.later_names}
use Rattle.theorems.proofs.one_operand.hashed_name_read.Goals as goal

-- in a world that agrees with what was read by the end
pub returns : goal.returns
returns g c =
    let (w, agrees, known) = rw (ap (λ (s : StreamsState). s.inputs) c.streams.view_is) at c.told_agree.ensures.world in
    let name = c.args.name.now in
    let old = c.args.streams.now in
    let settings = c.args.settings.now in
    let x = digest_or_fault settings.kind (answer_to (world_at w old.inputs) name) in
    let r = c.generate_one-result.result in
    let opened = name_opened settings c.args.tool.now name x old _ r
    (c.generate_one-result.ensures.behavior w agrees) in
    let (more, are, all) = c.generate_one-result.ensures.reads.openings in (
      more,
      are,
      all,
      on_ok_weaker r (λ asked. later_names old.inputs.openings more (name ∷ [])
          (sym (ap names_of are) ∙ asked)) opened,
    )
