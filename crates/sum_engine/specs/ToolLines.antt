-- The lines that begin with the tool and a name.
use Rattle.std.specs.{List.concat, Prelude.[], Prelude.◌∷◌, Prelude.codes}
use Rattle.digest_kinds.specs.Bytes.{ByteString}
use Rattle.sum_sources.specs.{Fault.fault_text, declared.fault.Fault.Fault}
use Rattle.sum_lines.specs.Escape.{escape}

-- TOOL: NAME: TEXT
abbrev pub tool_line : ByteString → ByteString → ByteString → ByteString
tool_line tool name text = concat (tool ∷ codes ": " ∷ escape name ∷ codes ": " ∷ text ∷ codes "\n" ∷ [])

-- the line of a name that can't be opened or read
abbrev pub name_fault_line : ByteString → ByteString → Fault → ByteString
name_fault_line tool name fault = tool_line tool name (fault_text fault)
