use Rattle.std.proofs.Common.{arith}
use Rattle.sum_lines.proofs.SinkLemmas.{HasLeft-step, HasLeft-failed}
use Rattle.sum_words.proofs.TextLemmas.{option_lines_from}
use Rattle.sum_words.proofs.messages.help.put_options.Goals as goal

-- the write of a line failed
pub returns-in_err-put_option : goal.returns-in_err-put_option
returns-in_err-put_option g c =
    let cut = option_lines_from c.args.tool c.args.flags.now c.loop-flag.flag-index _ (omega arith) in
    HasLeft-failed _ _ c.loop-flag.invariant cut c.in_err-put_option.ensures c.from_residual.ensures.0

-- a line was written
pub loop-flag-preserved : goal.loop-flag-preserved
loop-flag-preserved g c =
    let cut = option_lines_from c.args.tool c.args.flags.now c.loop-flag.flag-index _ (omega arith) in
    HasLeft-step _ c.loop-flag.invariant cut c.in_ok-put_option.ensures
