use Rattle.std.proofs.Common.{drop}
use Rattle.sum_lines.proofs.SinkLemmas.{HasLeft}
use Rattle.sum_words.proofs.TextLemmas.{option_lines}
use Rattle.sum_words.proofs.messages.help.put_options.Given as goal

-- the lines of the remaining options are left
abbrev pub invariant-loop-flag : goal.invariant-loop-flag
invariant-loop-flag g l =
    HasLeft l.fn.out l.out (option_lines l.tool l.flags) (option_lines l.tool (drop l.flag-index l.flags))
