-- The state of a sink over a writer.
use Rattle.std.specs.Prelude.{[], ◌++◌, Option, unwrap_or}
use Rattle.digest_kinds.specs.Bytes.{ByteString}
use Rattle.sum_lines.specs.{sinks.Sink.SinkState}
use Rattle.sum_lines.specs.declared.system.from_write.FromWrite.{FromWrite}

-- what the writer below a sink held at first, if that is known
abbrev pub held_at_first : {W : Type 0} {write : _} → FromWrite W write → Option ByteString
held_at_first {write = write} sink = write.contents sink.first.value

-- the state of a sink over a writer: what the writer held at first, if that is known, counts as written
abbrev pub from_write_state : {W : Type 0} {write : _} → FromWrite W write → SinkState
from_write_state sink = let got = sink.log.output in
    record sink.log { output = record got { written = unwrap_or (held_at_first sink) [] ++ got.written } }
