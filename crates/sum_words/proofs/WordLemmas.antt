-- One word: its prefixes, its characters, and what is left of it for a value.
use Rattle.std.proofs.Common.{rules, arith, ◌≡◌, ◌==◌, ◌≢◌, ℕ, ◌+◌, true, false, List, [], ◌∷◌, codes, length, drop}
use Rattle.std.proofs.Common.{Option, None, Some, MatchOption, refl, sym, bytes_eq, IsUtf8, Bor}
use Rattle.std.proofs.lemmas.{Bool.false_from_ne_true, List.nil_from_length, Slice.Eq.bytes_eq-Decides, Str.chars-nil}
use Rattle.std.proofs.lemmas.{Str.encodes-chars, Str.IsUtf8-from_is_utf8, Str.is_utf8-from_IsUtf8}
use Rattle.std.proofs.lemmas.{Str.Pattern.starts_text}
use Rattle.std.specs.{List.starts_with, Str.chars, Str.is_utf8, Str.Pattern.FindsTextPrefix}
use lib.Utf8.{encode}
use Rattle.sum_words.specs.{declared.tool.Tool.Tool, parsing.Items.a_word, parsing.Items.length_value}
use Rattle.sum_words.specs.{parsing.Items.fault, parsing.Items.is_option_word, parsing.Items.items_from}
use Rattle.sum_words.specs.{parsing.WordFault.not_text, private.Items.attached_value}

-- the rest of a text after a prefix, as `strip_prefix` returns it
pub prefix_stripped : (prefix text : List ℕ) (r : Option (Bor (List ℕ)))
    → MatchOption r (FindsTextPrefix prefix text None) (λ x. (n : ℕ) × FindsTextPrefix prefix text (Some n)
    × (x.now ≡ drop n text) × (length x.now + n ≡ length text))
    → MatchOption r (starts_with ◌==◌ text prefix ≡ false)
    (λ x. (starts_with ◌==◌ text prefix ≡ true) × (x.now ≡ drop (length prefix) text))
prefix_stripped prefix text None h = sym (starts_text false prefix text h)
prefix_stripped prefix text (Some x)
    (n, f, e, l) = (sym (starts_text true prefix text (n, f, (rw f.0 f.2))), (rw f.0 at e))

-- something follows the dash of a word that begins with one and goes on
pub nonempty_after_dash : (word rest : List ℕ) → is_option_word word ≡ true → rest ≡ drop 1 word → rest ≡ [] → ⊥
nonempty_after_dash = search rules

-- what isn't UTF-8 is no "--"
no_dashes : (word : List ℕ) → (IsUtf8 word → ⊥) → bytes_eq word (codes "--") ≡ false
unfolding chars encode is_utf8
no_dashes word none = false_from_ne_true _ (λ same.
    none (rw ((bytes_eq-Decides word (codes "--")).0 same) (IsUtf8-from_is_utf8 (codes "--") refl)))

-- a word that isn't UTF-8 and begins with a dash is a fault, and the last item
pub no_text : (t : Tool) (word : List ℕ) (words : List (List ℕ)) → is_option_word word ≡ true → (IsUtf8 word → ⊥)
    → fault (not_text word) ∷ [] ≡ items_from t (word ∷ words) a_word
no_text t word words dash none = grind (arith, no_dashes, IsUtf8-from_is_utf8)

-- a text is UTF-8
pub ruleset utf8 = (is_utf8-from_IsUtf8)

-- what is left of the word, if that isn't empty, is the value
pub own_value : (t : Tool) (bs : List ℕ) (words : List (List ℕ)) → IsUtf8 bs → length bs ≢ 0
    → attached_value t (chars bs) words ≡ length_value bs ∷ items_from t words a_word
own_value t bs words valid some = grind (arith, encodes-chars bs valid)

-- the lemmas of the value in a word
pub ruleset values = (own_value, nil_from_length, chars-nil)
