use Rattle.std.proofs.Common.{[], false, inl, inr, None, Some}
use Rattle.digests.specs.{Program.not_read_line}
use Rattle.digests.specs.ToolRun.{meaning}
use Rattle.theorems.proofs.CallLemmas.{call_written, text_written}
use Rattle.theorems.proofs.program.command_written.Goals as goal

pub returns : goal.returns
returns g c = λ all fits tool words is w agrees.
    elim (c.command.ensures.behavior all fits) [
      | inl did ↦ inl (call_written (Some tool) (meaning tool words) _ w agrees
          (λ d same ran. (ran.done, ran.next, ran.later, ran.are, rw same ran.cause)) (rw is at did))
      | inr refused ↦ inr (refused.0, text_written None not_read_line [] false w agrees refused.1)
    ]
