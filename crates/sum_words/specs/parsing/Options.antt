-- The options of the tools, by name and by letter.
use Rattle.std.specs.{List.starts_with, Option.option_map_or}
use Rattle.std.specs.Prelude.{ℕ, ◌==◌, not, Bool, true, false, List, [], ◌∷◌, Option, Result, Ok, Err, codes, filter}
use Rattle.std.specs.Prelude.{find, bytes_eq}
use Rattle.digest_kinds.specs.Bytes.{ByteString}
use Rattle.sum_words.specs.{declared.parsing.options.Flag.Flag, declared.tool.Tool.Tool}
use Rattle.sum_words.specs.{parsing.WordFault.WordFaultValue}
use Rattle.sum_words.specs.declared.tool.Tool.TheVariants as tools
use Rattle.sum_words.specs.declared.parsing.options.Flag.TheVariants as flags

-- an option's row in the help: its letter (empty if it has none), its full name and its text
abbrev pub row_of : Flag → ByteString × ByteString × ByteString
row_of flags.Binary = (codes "b", codes "binary", codes "mark each line as binary")
row_of flags.Check = (codes "c", codes "check", codes "read checksums from the FILEs and check them")
row_of flags.Length = (codes "l", codes "length", codes "digest length in bits, a multiple of 8, at most 512")
row_of flags.Tag = ([], codes "tag", codes "write lines of the tagged form")
row_of flags.Text = (codes "t", codes "text", codes "mark each line as text (default)")
row_of flags.Zero = (codes "z", codes "zero", codes "end each line with NUL and escape no name")
row_of flags.IgnoreMissing = ([], codes "ignore-missing", codes "with -c: neither fail nor report for missing files")
row_of flags.Quiet = ([], codes "quiet", codes "with -c: print no OK lines")
row_of flags.Status = ([], codes "status", codes "with -c: print no report")
row_of flags.Strict = ([], codes "strict", codes "with -c: fail for improperly formatted lines")
row_of flags.Warn = (codes "w", codes "warn", codes "with -c: name each improperly formatted line")
row_of flags.Help = ([], codes "help", codes "print this text")
row_of flags.Version = ([], codes "version", codes "print the version")

-- an option's full name
abbrev pub full_name : Flag → ByteString
full_name flag = let (letter, name, text) = row_of flag in name

-- whether an option takes a value
abbrev pub takes_value : Flag → Bool
takes_value flags.Length = true
takes_value flag = false

-- all options, in the order of the help
abbrev pub all_flags : List Flag
all_flags = flags.Binary ∷ flags.Check ∷ flags.Length ∷ flags.Tag ∷ flags.Text ∷ flags.Zero ∷ flags.IgnoreMissing ∷
    flags.Quiet ∷ flags.Status ∷ flags.Strict ∷ flags.Warn ∷ flags.Help ∷ flags.Version ∷ []

-- whether a tool has an option: b2sum has all, and every other tool those that take no value
abbrev pub has_option : Tool → Flag → Bool
has_option tools.B2sum flag = true
has_option tool flag = not (takes_value flag)

-- a tool's options
abbrev pub flags_of : Tool → List Flag
flags_of tool = filter (has_option tool) all_flags

-- the only option of a list; a fault of this name, if the list is empty or has several
abbrev pub only_or_fault : ByteString → List Flag → Result Flag WordFaultValue
only_or_fault name [] = Err (WordFaultValue.unknown_long name)
only_or_fault name (flag ∷ []) = Ok flag
only_or_fault name several = Err (WordFaultValue.ambiguous_long name)

-- a tool's option of this full name; otherwise the only one whose full name begins with the name, or the fault
unfoldable pub name_or_fault : Tool → ByteString → Result Flag WordFaultValue
name_or_fault tool name = option_map_or Ok (find (λ flag. bytes_eq name (full_name flag)) (flags_of tool))
    (only_or_fault name (filter (λ flag. starts_with ◌==◌ (full_name flag) name) (flags_of tool)))

-- a tool's option of this letter
unfoldable pub option_of_letter : Tool → ℕ → Option Flag
option_of_letter tool character =
    find (λ flag. let (letter, name, text) = row_of flag in bytes_eq letter (character ∷ [])) (flags_of tool)
