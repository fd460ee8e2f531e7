-- How a fault of the words is reported.
use Rattle.std.specs.Prelude.{◌++◌, codes, encode_utf8}
use Rattle.digest_kinds.specs.Bytes.{ByteString}
use Rattle.sum_lines.specs.Escape.{escape}
use Rattle.sum_words.specs.{Tool.name_of, declared.parsing.options.Spelling.TheVariants.Long}
use Rattle.sum_words.specs.{declared.parsing.options.Spelling.TheVariants.Short, declared.tool.Tool.Tool}
use Rattle.sum_words.specs.{parsing.Options.full_name, parsing.WordFault.WordFaultValue}

-- the text of a fault. What was typed is escaped in it as names of files are
abbrev pub wording : WordFaultValue → ByteString
wording (WordFaultValue.unknown_long name) = codes "unrecognized option '--" ++ escape name ++ codes "'"
wording (WordFaultValue.ambiguous_long name) = codes "option '--" ++ escape name ++ codes "' is ambiguous"
wording (WordFaultValue.value_not_allowed name) = codes "option '--" ++ name ++ codes "' doesn't allow an argument"
wording (WordFaultValue.value_missing Long) = codes "option '--length' requires an argument"
wording (WordFaultValue.value_missing Short) = codes "option requires an argument -- 'l'"
wording (WordFaultValue.unknown_short letter) = codes "invalid option -- '" ++ escape (encode_utf8 letter) ++ codes "'"
wording (WordFaultValue.length_invalid value) = codes "invalid length: '" ++ escape value ++ codes "'"
wording (WordFaultValue.length_not_bytes value) = codes "length is not a multiple of 8: '" ++ escape value ++ codes "'"
wording WordFaultValue.tag_with_text = codes "--tag does not support --text mode"
wording WordFaultValue.zero_with_check = codes "the --zero option is not supported when verifying checksums"
wording WordFaultValue.tag_with_check = codes "the --tag option is meaningless when verifying checksums"
wording WordFaultValue.mode_with_check =
    codes "the --binary and --text options are meaningless when verifying checksums"
wording (WordFaultValue.without_check flag) =
    codes "the --" ++ full_name flag ++ codes " option is meaningful only when verifying checksums"
wording WordFaultValue.check_needed = codes "--check is required"
wording (WordFaultValue.not_text word) = codes "unrecognized option '" ++ escape word ++ codes "'"

-- the two lines for a fault of words
abbrev pub fault_lines : Tool → WordFaultValue → ByteString
fault_lines tool fault = name_of tool ++ codes ": " ++ wording fault
    ++ codes "\nTry '" ++ name_of tool ++ codes " --help' for more information.\n"
