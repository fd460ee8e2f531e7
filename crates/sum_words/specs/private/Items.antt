-- Relates the iterator over the words to the list of items: the values of its types, and the items that remain.
use Rattle.std.specs.Prelude.{ℕ, map, List, [], ◌∷◌, chars, encode_utf8_all}
use Rattle.digest_kinds.specs.Bytes.{ByteString}
use Rattle.sum_words.specs.declared.{parsing.items.Item.Item, parsing.items.ParserState.ParserState}
use Rattle.sum_words.specs.declared.{parsing.items.ParserStep.ParserStep, parsing.options.Spelling.TheVariants.Short}
use Rattle.sum_words.specs.declared.{tool.Tool.Tool}
use Rattle.sum_words.specs.parsing.{Items.ItemValue, Items.option, Items.length_value, Items.operand, Items.fault}
use Rattle.sum_words.specs.parsing.{Items.a_word, Items.a_value, Items.cluster, Items.items_from}
use Rattle.sum_words.specs.parsing.{WordFault.word_fault_value}
use Rattle.sum_words.specs.declared.parsing.items.Item.TheVariants as items
use Rattle.sum_words.specs.declared.parsing.items.ParserState.TheVariants as states
use Rattle.sum_words.specs.declared.parsing.items.ParserStep.TheVariants as steps

-- the value of an `Item`
abbrev pub item_value : Item → ItemValue
item_value (items.Flag flag) = option flag
item_value (items.Length value) = length_value value.now
item_value (items.Operand word) = operand word.now
item_value (items.Fault wrong) = fault (word_fault_value wrong)

-- the items from the value of an option in a cluster on. These letters are the value or, if there are none, a word is
abbrev pub attached_value : Tool → List ℕ → List ByteString → List ItemValue
attached_value tool [] words = items_from tool words (a_value Short)
attached_value tool letters words = length_value (encode_utf8_all letters) ∷ items_from tool words a_word

-- the items that remain in a state, before these words
abbrev pub remaining_items : Tool → ParserState → List ByteString → List ItemValue
remaining_items tool states.Word words = items_from tool words a_word
remaining_items tool (states.Cluster letter rest) words = cluster tool (letter ∷ chars rest.now) (items_from tool words)
remaining_items tool states.OnlyOperands words = map operand words
remaining_items tool states.Done words = []

-- the items that remain from a step on, before these words
abbrev pub step_items : Tool → ParserStep → List ByteString → List ItemValue
step_items tool (steps.Item item state) words = item_value item ∷ remaining_items tool state words
step_items tool (steps.Value spelling) words = items_from tool words (a_value spelling)
step_items tool steps.OnlyOperands words = map operand words
