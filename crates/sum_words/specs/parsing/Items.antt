-- The items of a tool's words: options, values of --length, operands and a fault. No item follows a fault.
use Rattle.std.specs.Prelude.{ℕ, ◌+◌, ◌==◌, ◌&&◌, not, Bool, List, [], ◌∷◌, map, drop, length, Option, None, Some}
use Rattle.std.specs.Prelude.{Result, Ok, Err, codes, if◌then◌else◌, option_map, position, bytes_eq, chars}
use Rattle.std.specs.Prelude.{encode_utf8_all}
use Rattle.std.specs.{List.starts_with, List.before_first, Str.byte, Str.is_utf8, Option.option_map_or}
use Rattle.digest_kinds.specs.Bytes.{ByteString}
use Rattle.sum_words.specs.declared.{parsing.options.Flag.Flag, parsing.options.Spelling.Spelling}
use Rattle.sum_words.specs.declared.{parsing.options.Spelling.TheVariants.Long}
use Rattle.sum_words.specs.declared.{parsing.options.Spelling.TheVariants.Short, tool.Tool.Tool}
use Rattle.sum_words.specs.parsing.{Options.full_name, Options.takes_value, Options.name_or_fault}
use Rattle.sum_words.specs.parsing.{Options.option_of_letter, WordFault.WordFaultValue}

-- an item of words: an option, the value of an option, an operand, or a fault. A fault is the last item
pub data ItemValue : Type 0 where
  option : Flag → ItemValue
  length_value operand : ByteString → ItemValue
  fault : WordFaultValue → ItemValue

-- how the next word is read: by itself, or as the value of an option with this spelling
pub data NextWord : Type 0 where
  a_word : NextWord
  a_value : Spelling → NextWord

-- the name in a long option: what precedes the first '='
abbrev pub name_part : ByteString → ByteString
name_part text = before_first (λ b. b == byte "=") text

-- the value in a long option: what follows the first '=', if there is one
abbrev pub value_part : ByteString → Option ByteString
value_part text = option_map (λ i. drop (i + 1) text) (position (λ b. b == byte "=") text)

-- the items of a long option and of the rest of the words; `rest` takes how the next word is read
abbrev pub long_option : Result Flag WordFaultValue → Option ByteString → (NextWord → List ItemValue) → List ItemValue
long_option (Ok flag) None rest =
    if takes_value flag then rest (NextWord.a_value Long) else ItemValue.option flag ∷ rest NextWord.a_word
long_option (Ok flag) (Some value) rest = if takes_value flag then ItemValue.length_value value ∷ rest NextWord.a_word
    else ItemValue.fault (WordFaultValue.value_not_allowed (full_name flag)) ∷ []
long_option (Err wrong) value rest = ItemValue.fault wrong ∷ []

-- the items of letters, as `tl8` in `-tl8`, and of the rest. A value is what follows its letter or else the next word
abbrev pub cluster : Tool → List ℕ → (NextWord → List ItemValue) → List ItemValue
cluster tool [] rest = rest NextWord.a_word
cluster tool (c ∷ cs) rest = option_map_or
    (λ flag. if not (takes_value flag) then ItemValue.option flag ∷ cluster tool cs rest
    else if length cs == 0 then rest (NextWord.a_value Short)
    else ItemValue.length_value (encode_utf8_all cs) ∷ rest NextWord.a_word)
    (option_of_letter tool c)
    (ItemValue.fault (WordFaultValue.unknown_short c) ∷ [])

-- whether a word is read as options: it begins with a dash and isn't a dash alone
abbrev pub is_option_word : ByteString → Bool
is_option_word word = starts_with ◌==◌ word (codes "-") && not (bytes_eq word (codes "-"))

-- the items of a word and of the rest. Options are UTF-8: a cluster after "-", a long option after "--"
abbrev pub word_items : Tool → ByteString → (NextWord → List ItemValue) → List ItemValue
word_items tool word rest = if not (is_option_word word) then ItemValue.operand word ∷ rest NextWord.a_word
    else if not (is_utf8 word) then ItemValue.fault (WordFaultValue.not_text word) ∷ []
    else if not (starts_with ◌==◌ word (codes "--")) then cluster tool (chars (drop 1 word)) rest
    else long_option (name_or_fault tool (name_part (drop 2 word))) (value_part (drop 2 word)) rest

-- the items of words, if the first is read in this way. After a "--" that is no option's value, all words are operands
abbrev pub items_from : Tool → List ByteString → NextWord → List ItemValue
items_from tool [] NextWord.a_word = []
items_from tool (word ∷ words) NextWord.a_word =
    if bytes_eq word (codes "--") then map ItemValue.operand words else word_items tool word (items_from tool words)
items_from tool [] (NextWord.a_value spelling) = ItemValue.fault (WordFaultValue.value_missing spelling) ∷ []
items_from tool (word ∷ words) (NextWord.a_value spelling) =
    ItemValue.length_value word ∷ items_from tool words NextWord.a_word

-- the option in an item, if it has one
abbrev pub option_in : ItemValue → Option Flag
option_in (ItemValue.option flag) = Some flag
option_in other = None

-- the value in an item, if it has one
abbrev pub value_in : ItemValue → Option ByteString
value_in (ItemValue.length_value value) = Some value
value_in other = None

-- the operand in an item, if it has one
abbrev pub operand_in : ItemValue → Option ByteString
operand_in (ItemValue.operand word) = Some word
operand_in other = None
