-- What a call does that writes a text to a buffer.
use Rattle.sum_lines.specs.declared.sinks.buffered.TheConstants.{CAPACITY}
use Rattle.std.specs.Prelude.{◌≡◌, ◌+◌, ◌<◌, ◌%◌, ◌++◌, length, ⊤, Result, Ok, Err}
use Rattle.digest_kinds.specs.Bytes.{ByteString}
use Rattle.sum_lines.specs.sinks.{Buffered.BufferState, Output.OffersEach, Output.output_events}

-- what was buffered and the text were written, but for bytes that are buffered: what the sink got, it was offered in
-- pieces of `CAPACITY` bytes. Or a call of the sink failed, and a proper prefix of them was written
abbrev pub Writes : {E : Type 0} → BufferState → BufferState → ByteString → Result ⊤ E → Type 0
Writes before after text (Ok done) =
    (after.sink.output.written ++ after.buffered ≡ before.sink.output.written ++ (before.buffered ++ text))
    × (after.sink.output.failures ≡ before.sink.output.failures)
    × (given : ByteString) × (before.buffered ++ text ≡ given ++ after.buffered) × (length given % CAPACITY ≡ 0)
    × OffersEach before.sink.output.offered after.sink.output.offered (output_events given)
Writes before after text (Err fault) = (prefix rest : ByteString)
    × (before.buffered ++ text ≡ prefix ++ rest) × (0 < length rest)
    × (after.sink.output.written ≡ before.sink.output.written ++ prefix)
    × (after.sink.output.failures ≡ before.sink.output.failures + 1)
