-- Relates a full buffer, or one with room, to the buffer that has room for more.
use Rattle.std.specs.Prelude.{◌≡◌, ◌<◌, [], length, IsTrue, ⊤, ◌⊎◌, Result, IsOk, OnErr}
use Rattle.sum_lines.specs.{declared.sinks.buffered.TheConstants.CAPACITY, sinks.Buffered.BufferState}
use Rattle.sum_lines.specs.sinks.GivesAll.{GivesAll}

-- a full buffer is given to the sink; any other one has room, and stays
abbrev pub MakesRoom : {E : Type 0} → BufferState → BufferState → Result ⊤ E → Type 0
MakesRoom before after result = ((length before.buffered ≡ CAPACITY) × (after.buffered ≡ [])
    × GivesAll before.sink.output after.sink.output before.buffered result × OnErr result (IsTrue after.sink.flushed))
    ⊎ ((length before.buffered < CAPACITY) × (after ≡ before) × IsOk result)
