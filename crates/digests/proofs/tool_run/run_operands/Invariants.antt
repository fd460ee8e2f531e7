use Rattle.std.proofs.Common.{length, Ok}
use Rattle.sum_engine.specs.Streams.{FailuresMatch}
use Rattle.sum_words.specs.Tool.{name_of}
use Rattle.digests.{proofs.OperandLemmas.HasReached, proofs.OperandLemmas.left, specs.private.ToolRun.operand_behavior}
use Rattle.digests.specs.ToolRun.{names_or_dash}
use Rattle.digests.proofs.tool_run.run_operands.Given as goal

-- the operands before this one were done, and no write failed
abbrev pub invariant-operands : goal.invariant-operands
invariant-operands g l = record {
  reached : HasReached (operand_behavior l.job (name_of l.tool)) (names_or_dash l.fn.operands)
      (left l.next l.operands) l.fn.streams l.streams l.good;
  failures : FailuresMatch l.fn.streams.outputs l.streams.outputs (Ok l.good);
}

-- one operand fewer is left
abbrev pub decreases-operands : goal.decreases-operands
decreases-operands g l = length (left l.next l.operands)
