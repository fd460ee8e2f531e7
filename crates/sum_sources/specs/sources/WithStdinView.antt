-- Standard input and a source of files, as one source, by its fields.
use Rattle.sum_sources.specs.{declared.sources.with_stdin.WithStdin.WithStdin, inputs.Stdin.StdinValue}
use Rattle.sum_sources.specs.{sources.Source.SourceState, sources.WithStdin.with_stdin_state}

-- standard input, beside a source
abbrev pub stdin_in : {I S F : Type 0} {i : _} {s : _} {f : _} → WithStdin I S F i s f → StdinValue I
stdin_in both = both.stdin

-- the source beside standard input
abbrev pub source_in : {I S F : Type 0} {i : _} {s : _} {f : _} → WithStdin I S F i s f → S
source_in both = both.source

-- the state of both as one source
abbrev pub both_state : {I S F : Type 0} {i : _} {s : _} {f : _} → WithStdin I S F i s f → SourceState
both_state {i = i} {s = s} both = with_stdin_state i.state both.first both.log (s.state both.source)
