-- Relates the scan of the options to the request: the values so far, and what they make of it.
use Rattle.std.specs.Prelude.{ℕ, ◌≡◌, ◌<◌, ◌^◌, ◌&&◌, ◌||◌, not, bytes_eq, true, Bool, List, [], Option, None, Some}
use Rattle.std.specs.Prelude.{SomeIff, option_copied, filter_map}
use Rattle.std.specs.{List.last_or, List.list_all, Char.is_ascii_digit, Str.Parse.digits_value}
use Rattle.digest_kinds.specs.Bytes.{ByteString}
use Rattle.sum_words.specs.declared.parsing.{options.Flag.Flag, request.Chosen.Chosen}
use Rattle.sum_words.specs.declared.parsing.{request.ScannedOptions.ScannedOptions}
use Rattle.sum_words.specs.declared.parsing.{request.ScannedOptions.TheVariants.Options}
use Rattle.sum_words.specs.declared.parsing.{request.ScannedOptions.TheVariants.Early}
use Rattle.sum_words.specs.parsing.{Items.ItemValue, Items.option_in, Items.value_in, Request.report_flag}
use Rattle.sum_words.specs.parsing.{Request.early_request, Request.has_flag, Request.last_of, Request.mode_flags}
use Rattle.sum_words.specs.parsing.{Request.report_flags, WordFault.result_value}
use Rattle.sum_words.specs.declared.parsing.options.Flag.TheVariants as flags

-- an option was given earlier, or is in the rest, exactly if it is among all
abbrev pub IsThere : Flag → Bool → List ItemValue → List ItemValue → Type 0
IsThere flag earlier rest all = (has_flag flag (filter_map option_in rest) || earlier) ≡ has_flag flag
    (filter_map option_in all)

-- the options chosen so far and those of the rest are those of all items
pub record IsChosenBy (chosen : Chosen) (rest all : List ItemValue) : Type 0 where
  pub mode : last_of mode_flags chosen.mode (filter_map option_in rest)
      ≡ last_of mode_flags None (filter_map option_in all)
  pub report : last_of report_flags (report_flag chosen.report) (filter_map option_in rest)
      ≡ last_of report_flags None (filter_map option_in all)
  pub length : last_or (option_copied chosen.length) (filter_map value_in rest)
      ≡ last_or None (filter_map value_in all)
  pub binary : IsThere flags.Binary chosen.binary rest all
  pub check : IsThere flags.Check chosen.check rest all
  pub tag : IsThere flags.Tag chosen.tag rest all
  pub text : IsThere flags.Text chosen.text rest all
  pub zero : IsThere flags.Zero chosen.zero rest all
  pub ignore_missing : IsThere flags.IgnoreMissing chosen.ignore_missing rest all
  pub strict : IsThere flags.Strict chosen.strict rest all

-- the scan returns the options of all items, if none of these decides the request early; otherwise that request
abbrev pub IsScanOf : ScannedOptions → List ItemValue → Type 0
IsScanOf (Options chosen) items = IsChosenBy chosen [] items × (early_request items ≡ None)
IsScanOf (Early result) items = early_request items ≡ Some (result_value result)

-- the number of a value; `None` if the value isn't one or more digits, or its number isn't below 2^64
abbrev pub IsNumberOf : ByteString → Option ℕ → Type 0
IsNumberOf value result = let n = digits_value 10 value in
    SomeIff result ((not (bytes_eq value []) && list_all is_ascii_digit value ≡ true) × (n < 2 ^ 64)) n
