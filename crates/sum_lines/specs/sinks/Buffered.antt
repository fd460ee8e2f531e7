-- A buffer over a sink.
use Rattle.std.specs.Prelude.{◌≡◌, ◌<◌, ◌%◌, [], ◌++◌, length, IsTrue, ⊤, Result, Ok, Err}
use Rattle.digest_kinds.specs.Bytes.{ByteString}
use Rattle.sum_lines.specs.{declared.sinks.buffered.TheConstants.CAPACITY, sinks.Sink.SinkState}
use Rattle.sum_lines.specs.sinks.GivesAll.{GivesAll}

-- a buffer's state: that of the sink below it, and the bytes that are buffered
pub record BufferState : Type 0 where
  pub sink : SinkState
  pub buffered : ByteString

-- nothing is buffered, and the sink below the buffer is flushed
abbrev pub IsFlushed : BufferState → Type 0
IsFlushed buffer = (buffer.buffered ≡ []) × IsTrue buffer.sink.flushed

-- a text was accepted: the buffered bytes and the text are full pieces, which were given, and a last one, now buffered
pub record Accepts (before after : BufferState) (text : ByteString) : Type 0 where
  pub given : ByteString
  pub full : length given % CAPACITY ≡ 0
  pub cut : before.buffered ++ text ≡ given ++ after.buffered
  pub last : 0 < length given → 0 < length after.buffered
  pub gives : GivesAll {E = ⊤} before.sink.output after.sink.output given (Ok tt)

-- a write failed: the buffered bytes and the text, which isn't empty, are full pieces and a rest that isn't empty; a
-- prefix of the events of these pieces happened, and the other bytes are lost
pub record FailsToWrite (before after : BufferState) (text : ByteString) : Type 0 where
  pub nonempty : 0 < length text
  pub given : ByteString
  pub full : length given % CAPACITY ≡ 0
  pub rest : ByteString
  pub cut : before.buffered ++ text ≡ given ++ rest
  pub proper : 0 < length rest
  pub gives : GivesAll {E = ⊤} before.sink.output after.sink.output given (Err tt)
  pub flushed : IsFlushed after

-- a call accepts all of the text, or fails; with an empty text it doesn't fail
abbrev pub WritesAll : {E : Type 0} → BufferState → BufferState → ByteString → Result ⊤ E → Type 0
WritesAll before after text (Ok done) = Accepts before after text
WritesAll before after text (Err fault) = FailsToWrite before after text
