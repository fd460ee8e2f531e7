-- The texts of --help and --version.
use Rattle.std.specs.{Prelude.[], Prelude.◌-◌, Prelude.◌++◌, Prelude.codes, Prelude.flat_map, Prelude.if◌then◌else◌}
use Rattle.std.specs.{Prelude.length, Prelude.replicate, Prelude.bytes_eq, Str.byte}
use Rattle.digest_kinds.specs.{Algo.tag_of, Bytes.ByteString, declared.algo.Algos.Algos}
use Rattle.digest_kinds.specs.{declared.algo.Algos.TheVariants.One, declared.algo.Algos.TheVariants.Any}
use Rattle.sum_words.specs.{Tool.name_of, Tool.algos_of, declared.parsing.options.Flag.Flag, declared.tool.Tool.Tool}
use Rattle.sum_words.specs.{parsing.Options.row_of, parsing.Options.takes_value, parsing.Options.flags_of}

-- what a tool with these algorithms is for
abbrev pub purpose : Algos → ByteString
purpose (One algo) = codes "Print or check " ++ tag_of algo ++ codes " checksums."
purpose Any = codes "Check checksums of tagged lines."

-- an option's letter in the help; spaces if it has none
abbrev pub letter_column : ByteString → ByteString
letter_column letter = if bytes_eq letter [] then codes "      " else codes "  -" ++ letter ++ codes ", "

-- the line of an option in the help: its letter, its full name with spaces up to 18 columns, and its text
abbrev pub help_line : Flag → ByteString
help_line flag = let (letter, full_name, text) = row_of flag in
    let name = codes "--" ++ full_name ++ (if takes_value flag then codes "=BITS" else []) in
    letter_column letter ++ name ++ replicate (18 - length name) (byte " ") ++ text ++ codes "\n"

-- the text of --help
abbrev pub help : Tool → ByteString
help tool = codes "Usage: " ++ name_of tool ++ codes " [OPTION]... [FILE]...\n" ++ purpose (algos_of tool)
    ++ codes " With no FILE, or when FILE is -, read standard input.\n" ++ flat_map help_line (flags_of tool)

-- the text of --version
abbrev pub version : Tool → ByteString
version tool = name_of tool ++ codes " (digests), profile 2\n"
