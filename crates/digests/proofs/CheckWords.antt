-- The words of a check ask for that check.
use Rattle.std.proofs.Common.{arith, ◌≡◌, Bool, true, not, List, [], ◌∷◌, ◌++◌, map, codes, Ok, refl, ap, sym, ◌∙◌}
use Rattle.std.{proofs.lemmas.Bool.and_parts, proofs.lemmas.Grind.common_steps, specs.List.list_all, specs.Str.chars}
use Rattle.std.{specs.Str.is_utf8}
use lib.Utf8.{encode}
use Rattle.sum_settings.specs.declared.settings.{CheckSettings.CheckSettings, Report.Report}
use Rattle.sum_words.specs.{Tool.algos_of, declared.parsing.options.Flag.Flag}
use Rattle.sum_words.specs.{declared.parsing.request.Request.TheVariants.Check, declared.tool.Tool.Tool}
use Rattle.sum_words.specs.parsing.{Items.option, Items.operand, Items.a_word, Items.items_from, Options.full_name}
use Rattle.sum_words.specs.parsing.{Options.takes_value, Options.name_or_fault, Request.request}
use Rattle.digest_kinds.specs.Bytes.{ByteString}
use Rattle.digests.specs.Laws.{check_options, check_words}

-- ---- long options that every tool has, and that take no value

-- whether an option takes no value
abbrev takes_none : Flag → Bool
takes_none flag = not (takes_value flag)

-- the word of one option that takes no value is read as that option
one_long : (t : Tool) (flag : Flag) (more : List ByteString) → takes_none flag ≡ true
    → items_from t ((codes "--" ++ full_name flag) ∷ more) a_word ≡ option flag ∷ items_from t more a_word
unfolding chars encode is_utf8 name_or_fault
one_long = grind (arith, common_steps)

-- the words of several options that take no value are read as those options
several_long : (t : Tool) (fs : List Flag) (more : List ByteString) → list_all takes_none fs ≡ true
    → items_from t (map (λ f. codes "--" ++ full_name f) fs ++ more) a_word ≡ map option fs ++ items_from t more a_word
several_long t [] more all = refl
several_long t (flag ∷ fs) more all =
    let parts = and_parts _ _ all in
    one_long t flag _ parts.0 ∙ ap (λ xs. option flag ∷ xs) (several_long t fs more parts.1)

-- ---- the words of a check

-- the settings of a tool's check
abbrev settings : Tool → Report → Bool → Bool → CheckSettings
settings t r s i = record { algo = algos_of t; report = r; strict = s; ignore_missing = i }

-- no option of a check takes a value, and words with the check's items ask for the check
options_ask : (t : Tool) (words : List ByteString) (m : ByteString) (r : Report) (s i : Bool)
    → (list_all takes_none (check_options (settings t r s i)) ≡ true)
    × (items_from t words a_word ≡ map option (check_options (settings t r s i)) ++ operand m ∷ []
    → request t words ≡ Ok (Check (settings t r s i) (m ∷ [])))
options_ask = grind (arith, common_steps)

-- the words of a check ask for that check
pub request-check_words : (t : Tool) (check : CheckSettings) (manifest : ByteString) → check.algo ≡ algos_of t
    → request t (check_words check manifest) ≡ Ok (Check check (manifest ∷ []))
request-check_words t check manifest h =
    let is = options_ask t (check_words check manifest) manifest check.report check.strict check.ignore_missing in
    is.1 (several_long t (check_options check) (codes "--" ∷ manifest ∷ []) is.0)
    ∙ ap (λ a. Ok (Check (record check { algo = a }) (manifest ∷ []))) (sym h)
