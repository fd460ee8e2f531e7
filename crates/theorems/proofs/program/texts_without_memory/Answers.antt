use Rattle.std.proofs.Common.{[], ap, false, inl, inr, true, None, Some}
use Rattle.sum_engine.specs.Streams.{StreamsState}
use Rattle.sum_words.specs.messages.{FaultLines.fault_lines, Help.help, Help.version}
use Rattle.digests.specs.Program.{not_read_line}
use Rattle.theorems.proofs.CallLemmas.{call_asked, text_written}
use Rattle.theorems.proofs.program.texts_without_memory.Goals as goal

-- the tool's run, or the refusal to read its words, writes one text: in a world that agrees with what was read

pub returns-clause-help : goal.returns-clause-help
returns-clause-help g c = λ all fits tool words is asked.
    let (w, agrees, known) = rw (ap (λ (s : StreamsState). s.inputs) c.streams.view_is) at c.told_agree.ensures.world in
    elim (c.command-status.ensures.behavior all fits) [
      | inl did ↦ inl (text_written (Some tool) [] (help tool) true w agrees (call_asked tool asked (rw is at did)))
      | inr refused ↦ inr (refused.0, text_written None not_read_line [] false w agrees refused.1)
    ]

pub returns-clause-version : goal.returns-clause-version
returns-clause-version g c = λ all fits tool words is asked.
    let (w, agrees, known) = rw (ap (λ (s : StreamsState). s.inputs) c.streams.view_is) at c.told_agree.ensures.world in
    elim (c.command-status.ensures.behavior all fits) [
      | inl did ↦ inl (text_written (Some tool) [] (version tool) true w agrees (call_asked tool asked (rw is at did)))
      | inr refused ↦ inr (refused.0, text_written None not_read_line [] false w agrees refused.1)
    ]

pub returns-clause-fault : goal.returns-clause-fault
returns-clause-fault g c = λ all fits tool words is fault asked.
    let (w, agrees, known) = rw (ap (λ (s : StreamsState). s.inputs) c.streams.view_is) at c.told_agree.ensures.world in
    elim (c.command-status.ensures.behavior all fits) [
      | inl did ↦ inl (text_written (Some tool) (fault_lines tool fault) [] false w agrees
          (call_asked tool asked (rw is at did)))
      | inr refused ↦ inr (refused.0, text_written None not_read_line [] false w agrees refused.1)
    ]
