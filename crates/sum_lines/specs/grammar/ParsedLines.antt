-- What a line says, and how it parses, computed. The latter need not be believed: by the law `parse_is_grammar` it is
-- what the line grammar says.
use Rattle.std.specs.Prelude.{◌≡◌, ◌≤◌, ◌==◌, ◌∷◌, length, drop, slice_range, nat_lt, bytes_eq, ⊤, Option, None, Some}
use Rattle.std.specs.Prelude.{if◌then◌else◌}
use Rattle.std.specs.{Option.option_or, Option.option_map_or, List.list_all, Str.byte}
use Rattle.digest_kinds.specs.{Bytes.ByteString, Bytes.◌>>=◌, declared.algo.Algos.Algos}
use Rattle.sum_lines.specs.{Escape.escape, declared.reading.read_line.Reading.Reading}
use Rattle.sum_lines.specs.grammar.{Entries.EntryValue, Entries.is_ignored, Form.Form, Form.Undecided, Form.Standard}
use Rattle.sum_lines.specs.grammar.{Form.Reversed, Form.begins_standard, LineParts.LinePartsValue}
use Rattle.sum_lines.specs.grammar.{LineParts.tagged_parts, LineParts.plain_parts}
use Rattle.sum_lines.specs.declared.reading.read_line.Reading.TheVariants as readings

-- the bytes, with one byte for a backslash and the byte after it: newline for `\n`, carriage return for `\r`
abbrev pub unescaped_bytes : ByteString → ByteString
unescaped_bytes (b ∷ c ∷ cs) =
    if b == byte "\\" then
    (if c == byte "n" then byte "\n" else if c == byte "r" then byte "\r" else c) ∷ unescaped_bytes cs
    else b ∷ unescaped_bytes (c ∷ cs)
unescaped_bytes bytes = bytes

-- the name whose escape the bytes are, if they are an escape
abbrev pub unescape : ByteString → Option ByteString
unescape bytes = if bytes_eq (escape (unescaped_bytes bytes)) bytes then Some (unescaped_bytes bytes) else None

-- a plain line's parts with the raw name in place of the tail, if its tail has one in a list of that form
abbrev pub parts_with_raw_name : Form → LinePartsValue → Option LinePartsValue
parts_with_raw_name Reversed parts = Some parts
parts_with_raw_name Standard parts =
    if begins_standard parts.text then Some (record parts { text = drop 1 parts.text }) else None
parts_with_raw_name Undecided parts = None

-- the entry that a line's parts spell, if their text is a raw name that spells a name without NUL
abbrev pub entry_of_parts : LinePartsValue → Option EntryValue
entry_of_parts parts = do
  name ← if parts.escaped then unescape parts.text else Some parts.text
  if list_all (nat_lt 0) name then Some (record { kind = parts.kind; digest = parts.digest; name = name }) else None

-- the entry that a line spells in a list of that form
unfoldable pub entry_of : Algos → Form → ByteString → Option EntryValue
entry_of algos form line =
    option_or (tagged_parts algos line) (plain_parts algos line >>= parts_with_raw_name form) >>= entry_of_parts

-- what a line says: it is ignored, bad, or an entry
pub data ParsedLine : Type 0 where
  ignored bad : ParsedLine
  entry : EntryValue → ParsedLine

-- how a line parses in a list of that form
abbrev pub parse_line : Algos → Form → ByteString → ParsedLine
parse_line algos form line = if is_ignored line then ignored else option_map_or entry (entry_of algos form line) bad

-- what a reading says of a line; the name of an entry is a range of the line's vector
abbrev pub parsed_line_of : ByteString → Reading → ParsedLine
parsed_line_of line readings.Ignored = ignored
parsed_line_of line readings.Bad = bad
parsed_line_of line (readings.Entry kind digest from to) =
    entry (record { kind = kind; digest = digest; name = slice_range line from to })

-- the range of the name is in the line, and the digest is as long as the kind's
abbrev pub IsWithin : ByteString → Reading → Type 0
IsWithin line readings.Ignored = ⊤
IsWithin line readings.Bad = ⊤
IsWithin line (readings.Entry kind digest from to) = (from ≤ to) × (to ≤ length line) × (length digest ≡ kind.len)
