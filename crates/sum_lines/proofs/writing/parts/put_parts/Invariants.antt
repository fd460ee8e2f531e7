use Rattle.std.proofs.Common.{drop}
use Rattle.sum_lines.{proofs.SinkLemmas.HasLeft, specs.writing.Parts.joined_text}
use Rattle.sum_lines.proofs.writing.parts.put_parts.Given as goal

-- all but the text of the later parts was accepted
abbrev pub invariant-loop-part : goal.invariant-loop-part
invariant-loop-part g l = HasLeft l.fn.sink l.sink (joined_text l.parts) (joined_text (drop l.part-index l.parts))
