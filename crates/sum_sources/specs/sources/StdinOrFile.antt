-- What a `WithStdin` opened: standard input, or a file.
use Rattle.std.specs.Prelude.{Bool, true, false}
use Rattle.sum_sources.specs.{inputs.Input.InputState, inputs.Stdin.closable_state}
use Rattle.sum_sources.specs.declared.sources.stdin_or_file.StdinOrFile.{StdinOrFile}
use Rattle.sum_sources.specs.declared.sources.stdin_or_file.StdinOrFile.TheVariants.{Stdin, File}

-- the state of what was opened
abbrev pub stdin_or_file_state : {I F : Type 0} → (I → InputState) → (F → InputState) → StdinOrFile I F → InputState
stdin_or_file_state stdin_state file_state (Stdin given log) =
    record (closable_state stdin_state given) { name = log.name; nth = log.nth }
stdin_or_file_state stdin_state file_state (File file) = file_state file

-- whether standard input was opened
abbrev pub is_stdin : {I F : Type 0} → StdinOrFile I F → Bool
is_stdin (Stdin given log) = true
is_stdin (File file) = false
