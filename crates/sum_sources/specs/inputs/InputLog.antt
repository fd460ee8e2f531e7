-- An input before its first read, and one in memory.
use Rattle.std.specs.Prelude.{ℕ, [], take, None}
use Rattle.sum_sources.specs.Fault.{Whole}
use Rattle.sum_sources.specs.inputs.Input.{Content, Phase, Ended, Reads, InputState, empty_reads}

-- the state of an unread input that no source opened, and that isn't in memory
abbrev pub no_reads : InputState
no_reads = record { nth = 0; name = []; told = None; reads = empty_reads }

-- no bytes, and a whole ending
abbrev pub empty_content : Content
empty_content = record { bytes = []; ending = Whole }

-- what the reads of a content gave: its first n bytes so far; or all of them, and then its ending
abbrev pub told_reads : Content → ℕ → Phase → Reads
told_reads content n (Ended ending) = record { bytes = content.bytes; phase = Ended content.ending }
told_reads content n phase = record { bytes = take n content.bytes; phase = phase }
