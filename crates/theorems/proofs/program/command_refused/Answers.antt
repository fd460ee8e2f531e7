use Rattle.std.proofs.Common.{[], false, inl, inr, None, Some}
use Rattle.digests.specs.{Program.not_read_line}
use Rattle.digests.specs.ToolRun.{meaning, names_or_dash}
use Rattle.sum_words.specs.Tool.{name_of}
use Rattle.theorems.proofs.{CallLemmas.call_written, CallLemmas.text_written, MemoryLemmas.refused_once}
use Rattle.theorems.proofs.program.command_refused.Goals as goal

pub returns : goal.returns
returns g c = λ all fits tool words is settings names asked w agrees.
    elim (c.command.ensures.behavior all fits) [
      | inl did ↦ inl (call_written (Some tool) (meaning tool words) _ w agrees
          (λ d same ran. rw same (refused_once settings (name_of tool) _ (names_or_dash names) (rw asked at ran)))
          (rw is at did))
      | inr refused ↦ inr (refused.0, text_written None not_read_line [] false w agrees refused.1)
    ]
