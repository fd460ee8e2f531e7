use Rattle.std.proofs.{Common.arith, Common.subst, lemmas.Grind.common_steps}
use Rattle.sum_lines.specs.sinks.Buffered.{WritesAll}
use Rattle.sum_words.proofs.messages.help.put_row.Goals as goal

-- the parts make the line
pub returns : goal.returns
returns g c =
    subst (λ line. WritesAll c.args.out.now c.put_parts.new.sink line c.put_parts.result)
    (grind (arith, common_steps)) c.put_parts.ensures
