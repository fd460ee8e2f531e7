-- What contracts see of a sink in memory.
use Rattle.std.specs.Prelude.{ℕ}
use Rattle.sum_lines.specs.sinks.Sink.{SinkState}

-- a sink in memory: its state, and how many bytes it still accepts before it fails
pub record ToldSinkValue : Type 0 where
  pub state : SinkState
  pub room : ℕ
