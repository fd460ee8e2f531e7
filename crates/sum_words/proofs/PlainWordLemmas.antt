-- Plain words are operands.
use Rattle.std.proofs.Common.{rules, ◌≡◌, true, false, Bool, not, List, [], ◌∷◌, ◌++◌, map, codes, refl, ap, bytes_eq}
use Rattle.std.{proofs.lemmas.List.Elements.All-head, proofs.lemmas.List.Elements.All-tail, specs.List.AllPass}
use Rattle.sum_words.specs.{declared.tool.Tool.Tool, parsing.Items.operand, parsing.Items.a_word}
use Rattle.sum_words.specs.{parsing.Items.is_option_word, parsing.Items.items_from}
use Rattle.digest_kinds.specs.Bytes.{ByteString}

-- a word that doesn't begin with a dash, or is a dash alone
abbrev is_plain : ByteString → Bool
is_plain word = not (is_option_word word)

-- two dashes are no plain word
no_dashes : (word : ByteString) → is_plain word ≡ true → bytes_eq word (codes "--") ≡ false
no_dashes = search rules

-- plain words are operands, whatever follows them
pub plain_words : (t : Tool) (words more : List ByteString) → AllPass is_plain words
    → items_from t (words ++ more) a_word ≡ map operand words ++ items_from t more a_word
plain_words t [] more h = refl
plain_words t (word ∷ words) more h =
    let plain = All-head (λ w. is_plain w ≡ true) word words h in
    rw (no_dashes word plain, plain) (ap (λ xs. operand word ∷ xs)
    (plain_words t words more (All-tail (λ w. is_plain w ≡ true) word words h)))
