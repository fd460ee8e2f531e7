-- What a tool's words ask for: a request, or the first fault that counts.
use Rattle.std.specs.Prelude.{◌&&◌, ◌||◌, not, nat_lt, Bool, true, false, List, [], ◌∷◌, Option, None, Some, Result, Ok}
use Rattle.std.specs.Prelude.{Err, if◌then◌else◌, unwrap_or, option_map, option_to_list, filter, bytes_eq, filter_map}
use Rattle.std.specs.{List.last_or, List.list_all, List.list_any, Option.ok_or, Option.option_or}
use Rattle.std.specs.{Option.option_and_then, Result.result_ok, Result.result_err, Char.is_ascii_digit}
use Rattle.std.specs.{Str.Parse.digits_value}
use Rattle.digest_kinds.specs.{Bytes.ByteString, Kind.KindValue, Kind.full_kind, Kind.blake2b_of_bits}
use Rattle.digest_kinds.specs.{declared.algo.Algos.Algos, declared.algo.Algos.TheVariants.One}
use Rattle.digest_kinds.specs.{declared.algo.Algos.TheVariants.Any}
use Rattle.sum_settings.specs.declared.{settings.Report.Report, style.Mode.Mode, style.Style.Style}
use Rattle.sum_words.specs.parsing.WordFault.{WordFaultValue}
use Rattle.sum_words.specs.parsing.Items.{ItemValue, NextWord, items_from, option_in, value_in, operand_in}
use Rattle.sum_words.specs.declared.parsing.request.Request.TheVariants.{Generate, Check, Help, Version}
use Rattle.sum_words.specs.{Tool.algos_of, declared.parsing.options.Flag.Flag, declared.parsing.request.Request.Request}
use Rattle.sum_words.specs.{declared.tool.Tool.Tool, parsing.Options.full_name}
use Rattle.sum_settings.specs.declared.style.Mode.TheVariants as modes
use Rattle.sum_settings.specs.declared.settings.Report.TheVariants as reports
use Rattle.sum_words.specs.declared.parsing.options.Flag.TheVariants as flags

-- whether an option is in a list. Options are told apart by their full names
abbrev pub has_flag : Flag → List Flag → Bool
has_flag flag list = list_any (λ other. bytes_eq (full_name flag) (full_name other)) list

-- the last given option of a group, or this earlier one if none is given
abbrev pub last_of : List Flag → Option Flag → List Flag → Option Flag
last_of group earlier given = last_or earlier (filter (λ flag. has_flag flag group) given)

-- whether an option is the last given option of a group, as Text is that of `mode_flags` in `-b -t`
abbrev pub is_last : Flag → List Flag → List Flag → Bool
is_last flag group given = has_flag flag (option_to_list (last_of group None given))

-- the options that set the mode of lines
abbrev pub mode_flags : List Flag
mode_flags = flags.Binary ∷ flags.Text ∷ flags.Tag ∷ []

-- the options that set the report of a check
abbrev pub report_flags : List Flag
report_flags = flags.Status ∷ flags.Warn ∷ flags.Quiet ∷ []

-- the option that sets this report, if an option is needed
abbrev pub report_flag : Report → Option Flag
report_flag reports.All = None
report_flag reports.Quiet = Some flags.Quiet
report_flag reports.Warn = Some flags.Warn
report_flag reports.Status = Some flags.Status

-- the kind that a value of --length asks for: one or more digits, whose number is at most 512 and a multiple of 8
abbrev pub length_kind : ByteString → Result KindValue WordFaultValue
length_kind value = let bits = digits_value 10 value in
    if bytes_eq value [] || not (list_all is_ascii_digit value) || nat_lt 512 bits
    then Err (WordFaultValue.length_invalid value)
    else ok_or (result_ok (blake2b_of_bits bits)) (WordFaultValue.length_not_bytes value)

-- the first of these faults that the given options have in combination; without `--check`, an option that needs it
abbrev pub fault_of_options : List Flag → Option WordFaultValue
fault_of_options given = let check = has_flag flags.Check given in
    if has_flag flags.Tag given && is_last flags.Text mode_flags given then Some WordFaultValue.tag_with_text
    else if has_flag flags.Zero given && check then Some WordFaultValue.zero_with_check
    else if has_flag flags.Tag given && check then Some WordFaultValue.tag_with_check
    else if (has_flag flags.Binary given || has_flag flags.Text given) && check then Some WordFaultValue.mode_with_check
    else if check then None
    else option_map WordFaultValue.without_check (if has_flag flags.IgnoreMissing given then Some flags.IgnoreMissing
    else option_or (last_of report_flags None given) (if has_flag flags.Strict given then Some flags.Strict else None))

-- the mode of lines that the given options set
abbrev pub mode_of : List Flag → Mode
mode_of given = if has_flag flags.Tag given then modes.Tag
    else if is_last flags.Binary mode_flags given then modes.Binary else modes.Text

-- the report of a check that the given options set
abbrev pub report_of : List Flag → Report
report_of given = if is_last flags.Status report_flags given then reports.Status
    else if is_last flags.Warn report_flags given then reports.Warn
    else if is_last flags.Quiet report_flags given then reports.Quiet else reports.All

-- what options without a fault ask for: with --check (true) a check; otherwise lines, which anysum can't write
abbrev pub request_of_options :
    Bool → Algos → Option KindValue → List Flag → List ByteString → Result Request WordFaultValue
request_of_options true algos kind given operands =
    let strict = has_flag flags.Strict given in let missing = has_flag flags.IgnoreMissing given in
    Ok (Check (record { algo = algos; report = report_of given; strict = strict; ignore_missing = missing }) operands)
request_of_options false (One algo) kind given operands =
    let style : Style = record { mode = mode_of given; zero = has_flag flags.Zero given } in
    Ok (Generate (record { kind = unwrap_or kind (full_kind algo); style = style }) operands)
request_of_options false Any kind given operands = Err WordFaultValue.check_needed

-- what is asked by the first item that decides alone, if there is one: a fault, --help or --version
abbrev pub early_request : List ItemValue → Option (Result Request WordFaultValue)
early_request [] = None
early_request (ItemValue.fault wrong ∷ items) = Some (Err wrong)
early_request (ItemValue.option flags.Help ∷ items) = Some (Ok Help)
early_request (ItemValue.option flags.Version ∷ items) = Some (Ok Version)
early_request (item ∷ items) = early_request items

-- what a tool's words ask for: what an item decides alone; otherwise the fault of the last length or else that of the
-- options in combination; otherwise what the options ask for
abbrev pub request : Tool → List ByteString → Result Request WordFaultValue
request tool words = let items = items_from tool words NextWord.a_word in
    let given = filter_map option_in items in
    let operands = filter_map operand_in items in
    let kind_or_fault = option_map length_kind (last_or None (filter_map value_in items)) in
    let kind = option_and_then result_ok kind_or_fault in
    let wrong = option_or (option_and_then result_err kind_or_fault) (fault_of_options given) in
    let by_options = request_of_options (has_flag flags.Check given) (algos_of tool) kind given operands in
    unwrap_or (option_or (early_request items) (option_map Err wrong)) by_options
