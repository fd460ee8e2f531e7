-- What `command` does that is to write the texts of a behavior.
use Rattle.std.specs.Prelude.{ℕ, ◌≡◌, ◌≢◌, ◌⊎◌, ◌++◌, [], false, Option, None}
use Rattle.digest_kinds.specs.Bytes.{ByteString}
use Rattle.digests.specs.{Program.stop_line}
use Rattle.digests.specs.ToolRun.{status_of}
use Rattle.sum_engine.specs.{Behavior.Behavior, Behavior.err_text, Behavior.out_text, Behavior.single_step}
use Rattle.sum_engine.specs.{Streams.StreamsState, Streams.failures_of}
use Rattle.sum_settings.specs.declared.stop.Stop.{Stop, TheVariants.Memory, TheVariants.Write}
use Rattle.sum_words.specs.declared.tool.Tool.{Tool}

-- it returns the behavior's status, and each output got its text. Or it stopped, with status 1: each output got a
-- prefix of its text, and standard error then a prefix of the line for the stop: all of it, if no call of standard
-- error failed. A write failed, or memory ran out by the cause
abbrev pub CommandWrites : Option Tool → Behavior → Type 0 → StreamsState → StreamsState → ℕ → Type 0
CommandWrites tool all Cause before after status = ((status ≡ status_of all.good)
    × (after.outputs.out.written ≡ before.outputs.out.written ++ out_text all)
    × (after.outputs.err.written ≡ before.outputs.err.written ++ err_text all))
    ⊎ ((status ≡ 1) × (stop : Stop) × (out err line later_out later_err later_line : ByteString)
    × (out_text all ≡ out ++ later_out) × (err_text all ≡ err ++ later_err)
    × (stop_line tool stop ≡ line ++ later_line)
    × (after.outputs.out.written ≡ before.outputs.out.written ++ out)
    × (after.outputs.err.written ≡ before.outputs.err.written ++ (err ++ line))
    × (after.outputs.err.failures ≡ before.outputs.err.failures → later_line ≡ [])
    × (stop ≡ Write → failures_of after.outputs ≢ failures_of before.outputs) × (stop ≡ Memory → Cause))

-- it writes this line to standard error, with status 1; or a write fails, and it writes a prefix of the line
abbrev pub OnlyWrites : ByteString → StreamsState → StreamsState → ℕ → Type 0
OnlyWrites line = CommandWrites None (single_step [] line [] false) ⊥
