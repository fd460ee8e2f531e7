-- The options read so far, and the number of a length value.
use Rattle.std.proofs.Common.{rules, ◌≡◌, ◌≢◌, ℕ, true, List, ◌∷◌, Result, arith, IsUtf8}
use Rattle.std.proofs.lemmas.{Fmt.IsAscii-from_digits, Grind.common_steps, Str.IsUtf8-from_ascii}
use Rattle.std.proofs.lemmas.{Str.Parse.IsNumeralModel, Str.Parse.numerals_by_value, Str.Parse.parse_digits}
use Rattle.std.specs.{Char.is_ascii_digit, List.list_all, Result.result_ok, Str.Parse.ParsesUnsigned}
use Rattle.std.specs.{Str.Parse.digits_value}
use Rattle.sum_words.specs.{declared.parsing.options.Flag.Flag, parsing.Items.ItemValue, parsing.Items.option}
use Rattle.sum_words.specs.{parsing.Request.early_request, private.Request.IsNumberOf}
use Rattle.digest_kinds.specs.Bytes.{ByteString}
use Rattle.sum_words.specs.declared.parsing.options.Flag.TheVariants as flags

-- an option other than help and version decides nothing early
pub no_early_request : (flag : Flag) (rest : List ItemValue) → flag ≢ flags.Help → flag ≢ flags.Version
    → early_request (option flag ∷ rest) ≡ early_request rest
no_early_request = search rules

-- the value of digits
digits : IsNumeralModel (λ ds. list_all is_ascii_digit ds ≡ true) (digits_value 10)
digits = numerals_by_value _ (search rules)

-- digits are a text
pub digits_text : (value : ByteString) → list_all is_ascii_digit value ≡ true → IsUtf8 value
digits_text value all = IsUtf8-from_ascii value (IsAscii-from_digits value (digits.to value all))

-- parsing digits returns their number, or it is too large
pub number_parsed : {E : Type 0} (value : ByteString) (r : Result ℕ E) → ParsesUnsigned 64 10 value r
    → list_all is_ascii_digit value ≡ true → IsNumberOf value (result_ok r)
number_parsed value r h all = let parsed = parse_digits digits 64 value r h all in grind (arith, common_steps)
