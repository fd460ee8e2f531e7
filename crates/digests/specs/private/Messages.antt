-- Relates the messages of the program to their texts.
use Rattle.std.specs.Prelude.{Some}
use Rattle.digest_kinds.specs.Bytes.{ByteString}
use Rattle.sum_words.specs.{messages.FaultLines.fault_lines, messages.Help.help, messages.Help.version}
use Rattle.sum_words.specs.{parsing.WordFault.word_fault_value}
use Rattle.digests.specs.{Program.stop_line, Program.unknown_tool_line, Program.not_read_line}
use Rattle.digests.specs.{declared.messages.Message.Message}
use Rattle.digests.specs.declared.messages.Message.TheVariants as texts

-- the text of a message
abbrev pub message_text : Message → ByteString
message_text (texts.Fault tool fault) = fault_lines tool (word_fault_value fault.now)
message_text (texts.Help tool) = help tool
message_text (texts.Version tool) = version tool
message_text texts.UnknownTool = unknown_tool_line
message_text texts.NotRead = not_read_line
message_text (texts.Stop tool stop) = stop_line (Some tool) stop
