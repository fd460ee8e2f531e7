use Rattle.std.proofs.{Common.arith, lemmas.List.at_drop_more}
use Rattle.sum_lines.{proofs.SinkLemmas.HasLeft-step, proofs.SinkLemmas.HasLeft-failed, specs.writing.Parts.joined_text}
use Rattle.sum_lines.proofs.writing.parts.put_parts.Goals as goal

-- the write of a part failed
pub returns-in_err-put_part : goal.returns-in_err-put_part
returns-in_err-put_part g c =
    let cut = at_drop_more joined_text c.args.parts.now c.loop-part.part-index _ (omega arith) in
    HasLeft-failed _ _ c.loop-part.invariant cut c.in_err-put_part.ensures c.from_residual.ensures.0

-- a part was written
pub loop-part-preserved : goal.loop-part-preserved
loop-part-preserved g c =
    let cut = at_drop_more joined_text c.args.parts.now c.loop-part.part-index _ (omega arith) in
    HasLeft-step _ c.loop-part.invariant cut c.in_ok-put_part.ensures
