-- The text of a list of parts, one after another.
use Rattle.std.specs.Prelude.{List, flat_map, decimal}
use Rattle.digest_kinds.specs.Bytes.{ByteString}
use Rattle.sum_lines.specs.{Escape.escape, declared.writing.parts.Part.Part}
use Rattle.sum_lines.specs.{declared.writing.parts.Part.TheVariants.Bytes}
use Rattle.sum_lines.specs.{declared.writing.parts.Part.TheVariants.Escaped}
use Rattle.sum_lines.specs.{declared.writing.parts.Part.TheVariants.Number}

-- the text of one part
abbrev pub part_text : Part → ByteString
part_text (Bytes bytes) = bytes.now
part_text (Escaped name) = escape name.now
part_text (Number n) = decimal n

-- the text of the parts, one after another
abbrev pub joined_text : List Part → ByteString
joined_text parts = flat_map part_text parts
