-- What the program does, from the list of its arguments to its status.
use Rattle.std.specs.Prelude.{ℕ, ◌≡◌, ◌⊎◌, false, List, [], ◌++◌, codes, ⊤, Option, None, Some, Result, Ok, Err}
use Rattle.std.specs.Prelude.{unwrap_or}
use Rattle.digest_kinds.specs.Bytes.{ByteString}
use Rattle.sum_settings.specs.declared.stop.Stop.{Stop, TheVariants.Memory, TheVariants.Write}
use Rattle.sum_lines.specs.sinks.Output.{OutputState}
use Rattle.sum_lines.specs.sinks.GivesAll.{GivesAll}
use Rattle.sum_sources.specs.sources.Source.{ToldAnswer}
use Rattle.sum_engine.specs.{Behavior.World, Behavior.Behavior, Behavior.single_step, Execution.Performs}
use Rattle.sum_engine.specs.{Streams.BothOutputs, Streams.StreamsState, Streams.FailuresMatch}
use Rattle.sum_words.specs.{Arguments.ArgumentsState, Arguments.FitsArguments, CommandLine.command_line}
use Rattle.sum_words.specs.{CommandLine.NeedsMemory, Tool.name_of, declared.tool.Tool.Tool}
use Rattle.digests.specs.ToolRun.{meaning, status_of}

-- the line for an unknown or missing tool
abbrev pub unknown_tool_line : ByteString
unknown_tool_line = codes "digests: unknown tool\n"

-- the line for words that could not be read
abbrev pub not_read_line : ByteString
not_read_line = codes "digests: words not read\n"

-- the line for a stop, if the call has a tool; otherwise nothing
abbrev pub stop_line : Option Tool → Stop → ByteString
stop_line None stop = []
stop_line (Some tool) Memory = name_of tool ++ codes ": memory exhausted\n"
stop_line (Some tool) Write = name_of tool ++ codes ": write error\n"

-- the end of a call, after its run. A status is returned as it is. After a stop the status is 1, and standard error
-- alone is given the line for the stop: all of it or, if that fails, a prefix of its events
abbrev pub ReportsStop : Option Tool → Result ℕ Stop → BothOutputs → BothOutputs → ℕ → Type 0
ReportsStop tool (Ok run_status) before after status = (status ≡ run_status) × (after ≡ before)
ReportsStop tool (Err stop) before after status = (status ≡ 1) × (after ≡ record before { err = after.err })
    × (line_result : Result ⊤ ⊤) × GivesAll before.err after.err (stop_line tool stop) line_result

-- THE PROGRAM, for one call. Its run does what `Runs` says. A stop is then reported, if the call has a tool
pub record CallPerforms (tool : Option Tool) (Runs : StreamsState → StreamsState → Result ℕ Stop → Type 0)
    (before after : StreamsState) (status : ℕ) : Type 0 where
  pub result : Result ℕ Stop  -- what the run returned
  pub between : StreamsState  -- the streams after the run, before a stop is reported
  pub runs : Runs before between result
  pub failures : FailuresMatch before.outputs between.outputs result
  pub inputs : after.inputs ≡ between.inputs
  pub end : ReportsStop tool result between.outputs after.outputs status

-- a call that runs no tool: it writes this line to standard error, and isn't good. Nothing is written for a stop
abbrev pub CallRefuses : ByteString → StreamsState → StreamsState → ℕ → Type 0
CallRefuses line = CallPerforms None (Performs (λ world. single_step [] line [] false) status_of)

-- a call of a tool runs what the words mean, as Runs says. A call of no tool writes that the tool is unknown
abbrev pub CommandRuns : ((World → Behavior) → StreamsState → StreamsState → Result ℕ Stop → Type 0)
    → Option (Tool × List ByteString) → StreamsState → StreamsState → ℕ → Type 0
CommandRuns Runs None = CallRefuses unknown_tool_line
CommandRuns Runs (Some (tool, words)) = CallPerforms (Some tool) (Runs (meaning tool words))

-- a call of a tool performs what the words mean
abbrev pub CommandPerforms : Option (Tool × List ByteString) → StreamsState → StreamsState → ℕ → Type 0
CommandPerforms = CommandRuns (λ behavior. Performs behavior status_of)

-- THE PROGRAM, for each list of arguments that agrees: the call does what it asks, or refuses a list that needs memory
abbrev pub ProgramPerforms : ArgumentsState → StreamsState → StreamsState → ℕ → Type 0
ProgramPerforms given before after status = (arguments : List ByteString) → FitsArguments given arguments
    → CommandPerforms (command_line arguments) before after status
    ⊎ (NeedsMemory arguments × CallRefuses not_read_line before after status)

-- ---- the program as the system starts it

-- the state of an output before its first call. Its writer holds these bytes, if what it holds is known
abbrev pub fresh_output : Option ByteString → OutputState
fresh_output held = record { offered = []; written = unwrap_or held []; failures = 0 }

-- the state of streams before their first call: what is in memory, and what the writers of both outputs hold
abbrev pub fresh_streams : List ToldAnswer → Option ByteString → Option ByteString → StreamsState
fresh_streams told out err = record {
  inputs = record { told = told; openings = []; refusals = 0 };
  outputs = record { out = fresh_output out; err = fresh_output err };
}
