-- What was opened beside standard input, by its fields.
use Rattle.sum_sources.specs.{declared.sources.opened.Opened.Opened, inputs.Input.InputState}
use Rattle.sum_sources.specs.{sources.StdinOrFile.stdin_or_file_state}
use Rattle.sum_sources.specs.declared.sources.stdin_or_file.StdinOrFile.{StdinOrFile}

-- what was opened: standard input, or a file
abbrev pub input_in : {I F : Type 0} {i : _} {f : _} → Opened I F i f → StdinOrFile I F
input_in opened = opened.input

-- the state of what was opened, as an input
abbrev pub opened_state : {I F : Type 0} {i : _} {f : _} → Opened I F i f → InputState
opened_state {i = i} {f = f} opened = stdin_or_file_state i.state f.state opened.input
