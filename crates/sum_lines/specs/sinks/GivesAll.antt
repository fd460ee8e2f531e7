-- What a call does that gives an output a text.
use Rattle.std.specs.Prelude.{◌≡◌, ◌+◌, ⊤, List, ◌++◌, Result, Ok, Err}
use Rattle.digest_kinds.specs.Bytes.{ByteString}
use Rattle.sum_lines.specs.sinks.Output.{OutputState, OutputEvent, Gets, output_events}

-- a prefix of these events happened
abbrev pub GetsPrefix : OutputState → OutputState → List OutputEvent → Type 0
GetsPrefix before after events = (prefix rest : List OutputEvent) × (events ≡ prefix ++ rest) × Gets before after prefix

-- a call gives an output a text: all of its events happened; or a call of the sink failed after a prefix of them
abbrev pub GivesAll : {E : Type 0} → OutputState → OutputState → ByteString → Result ⊤ E → Type 0
GivesAll before after text (Ok done) = Gets before after (output_events text) × (after.failures ≡ before.failures)
GivesAll before after text (Err fault) =
    GetsPrefix before after (output_events text) × (after.failures ≡ before.failures + 1)
