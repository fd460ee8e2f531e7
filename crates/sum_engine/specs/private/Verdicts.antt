-- Relates the verdict of the line that was read last to what a call for the next verdict does.
use Rattle.std.specs.Prelude.{◌≡◌, ◌≤◌, length, Some, Result, Ok, Err, IfOk}
use Rattle.digest_kinds.specs.Bytes.{ByteString}
use Rattle.sum_settings.specs.declared.stop.NoRoom.{NoRoom}
use Rattle.sum_lines.specs.grammar.{Form.form_then, Form.line_form, ParsedLines.ParsedLine, ParsedLines.parse_line}
use Rattle.sum_sources.specs.declared.line_reader.LineStop.TheVariants.{Memory}
use Rattle.sum_engine.specs.check.{Judge.LineVerdict, Judge.HasNameRange, Verdicts.VerdictsValue}
use Rattle.sum_engine.specs.check.{Verdicts.VerdictResult, Verdicts.counts_after}

-- what this line says, if it was read last
abbrev pub parsed_at : {I : Type 0} → VerdictsValue I → ByteString → ParsedLine
parsed_at verdicts line = let algos = verdicts.rules.algo in
    parse_line algos (form_then verdicts.form (line_form algos line)) line

-- the result of a call for the next verdict that found this, or was refused memory to open the file
abbrev pub found_verdict : Result LineVerdict NoRoom → VerdictResult
found_verdict (Err no_room) = Err Memory
found_verdict (Ok found) = Ok (Some found)

-- a call adopted the line's form, counted its verdict, and changed nothing else. The name is within the line's vector,
-- which isn't longer than the line
pub record TakesLine {I : Type 0} (before after : VerdictsValue I) (line vector : ByteString)
    (result : Result LineVerdict NoRoom) : Type 0 where
  pub now : after ≡ record before {
    form = form_then before.form (line_form before.rules.algo line);
    counts = counts_after before.counts (found_verdict result);
  }
  pub name_range : IfOk result (HasNameRange vector)
  pub len : length vector ≤ length line
