-- What may be wrong with the words of a command line.
use Rattle.std.specs.Prelude.{ℕ, Result, Ok, Err}
use Rattle.digest_kinds.specs.Bytes.{ByteString}
use Rattle.sum_words.specs.declared.parsing.{options.Flag.Flag, options.Spelling.Spelling}
use Rattle.sum_words.specs.declared.parsing.{word_fault.WordFault.WordFault}
use Rattle.sum_words.specs.declared.parsing.options.Flag.TheVariants as flags
use Rattle.sum_words.specs.declared.parsing.word_fault.WordFault.TheVariants as word_faults

-- a fault of the words, with what its text shows: a name of an option, an option, a value, a word, a spelling, a
-- letter. `wording` has the text of each
pub data WordFaultValue : Type 0 where
  unknown_long ambiguous_long value_not_allowed : ByteString → WordFaultValue
  without_check : Flag → WordFaultValue
  length_invalid length_not_bytes not_text : ByteString → WordFaultValue
  value_missing : Spelling → WordFaultValue
  unknown_short : ℕ → WordFaultValue
  tag_with_text zero_with_check tag_with_check mode_with_check check_needed : WordFaultValue

-- the value of a `WordFault`
abbrev pub word_fault_value : WordFault → WordFaultValue
word_fault_value (word_faults.UnknownLong name) = unknown_long name.now
word_fault_value (word_faults.AmbiguousLong name) = ambiguous_long name.now
word_fault_value (word_faults.ValueNotAllowed name) = value_not_allowed name.now
word_fault_value (word_faults.ValueMissing spelling) = value_missing spelling
word_fault_value (word_faults.UnknownShort letter) = unknown_short letter
word_fault_value (word_faults.LengthInvalid value) = length_invalid value.now
word_fault_value (word_faults.LengthNotBytes value) = length_not_bytes value.now
word_fault_value word_faults.TagWithText = tag_with_text
word_fault_value word_faults.ZeroWithCheck = zero_with_check
word_fault_value word_faults.TagWithCheck = tag_with_check
word_fault_value word_faults.ModeWithCheck = mode_with_check
word_fault_value word_faults.IgnoreWithoutCheck = without_check flags.IgnoreMissing
word_fault_value word_faults.StatusWithoutCheck = without_check flags.Status
word_fault_value word_faults.WarnWithoutCheck = without_check flags.Warn
word_fault_value word_faults.QuietWithoutCheck = without_check flags.Quiet
word_fault_value word_faults.StrictWithoutCheck = without_check flags.Strict
word_fault_value word_faults.CheckNeeded = check_needed
word_fault_value (word_faults.NotText word) = not_text word.now

-- the value of a result
abbrev pub result_value : {X : Type 0} → Result X WordFault → Result X WordFaultValue
result_value (Ok x) = Ok x
result_value (Err fault) = Err (word_fault_value fault)
