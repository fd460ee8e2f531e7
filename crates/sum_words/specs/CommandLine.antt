-- What a command line asks for. It is a list of arguments, and the first of them is the program's name.
use Rattle.std.specs.Prelude.{[], ◌∷◌, find, bytes_eq}
use Rattle.std.specs.Prelude.{◌<◌, ◌⊎◌, ◌==◌, List, Any, length, drop, slice_get, Option, None, Some, is_some}
use Rattle.std.specs.Prelude.{IsSomeAnd, if◌then◌else◌, option_and_then, option_map}
use Rattle.std.specs.{List.after_last, Str.byte}
use Rattle.digest_kinds.specs.Bytes.{ByteString}
use Rattle.sum_words.specs.{Tool.name_of, declared.command_line.CommandLine.CommandLine}
use Rattle.sum_words.specs.{declared.command_line.CommandLine.TheVariants.Invoke}
use Rattle.sum_words.specs.{declared.command_line.CommandLine.TheVariants.UnknownTool, declared.tool.Tool.Tool}
use Rattle.sum_words.specs.declared.tool.Tool.TheVariants as tools

-- the tool of this name, if there is one
unfoldable pub tool_called : ByteString → Option Tool
tool_called name = find (λ tool. bytes_eq (name_of tool) name) (tools.Md5sum ∷ tools.Sha1sum ∷ tools.Sha224sum ∷
    tools.Sha256sum ∷ tools.Sha384sum ∷ tools.Sha512sum ∷ tools.B2sum ∷ tools.Anysum ∷ [])

-- the tool that the arguments name, and its words; `None` if they name no tool. The first argument, past its last slash
-- if it has one, names the tool; if no tool has that name, the second does
abbrev pub command_line : List ByteString → Option (Tool × List ByteString)
command_line arguments = let path = slice_get arguments 0 in
    let called = option_and_then (λ path. tool_called (after_last (λ b. b == byte "/") path)) path in
    if is_some called then option_map (λ tool. (tool, drop 1 arguments)) called
    else option_map (λ tool. (tool, drop 2 arguments)) (option_and_then tool_called (slice_get arguments 1))

-- the arguments need memory: they name a tool and have words for it, or one of them is longer than 4,096 bytes
abbrev pub NeedsMemory : List ByteString → Type 0
NeedsMemory arguments = IsSomeAnd (command_line arguments) (λ line. 0 < length line.1)
    ⊎ Any (λ argument. 4096 < length argument) arguments

-- the value of a `CommandLine`
abbrev pub command_line_value : {A : Type 0} → CommandLine A → Option (Tool × List ByteString)
command_line_value UnknownTool = None
command_line_value (Invoke tool words) = Some (tool, words)
