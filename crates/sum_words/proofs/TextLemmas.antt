-- The help is written in parts.
use Rattle.std.proofs.Common.{rules, arith, ℕ, ◌≡◌, ◌+◌, ◌<◌, ◌++◌, List, [], ◌∷◌, drop, filter, flat_map, get_or}
use Rattle.std.proofs.Common.{length}
use Rattle.std.proofs.lemmas.{Grind.common_steps, List.drop_more}
use Rattle.sum_words.specs.{declared.parsing.options.Flag.Flag, declared.tool.Tool.Tool, messages.Help.help_line}
use Rattle.sum_words.specs.{parsing.Options.has_option}
use Rattle.digest_kinds.specs.Bytes.{ByteString}

-- the first two lines of help, of which three parts say what the tool is for
pub usage_parts : {n n' p : ByteString} (usage operands prefix tag suffix input : ByteString) → n ≡ n'
    → prefix ++ tag ++ suffix ≡ p
    → usage ++ (n ++ (operands ++ (prefix ++ (tag ++ (suffix ++ (input ++ []))))))
    ≡ usage ++ n' ++ operands ++ p ++ input
usage_parts = grind (arith, common_steps)

-- the lines of help of those of these options that a tool has
abbrev pub option_lines : Tool → List Flag → ByteString
option_lines t flags = flat_map help_line (filter (has_option t) flags)

-- the lines of the options from a place on are that of the option there, and those of the later ones
pub option_lines_from : (t : Tool) (flags : List Flag) (i : ℕ) (d : Flag) → i < length flags
    → option_lines t (drop i flags) ≡ option_lines t (get_or flags i d ∷ []) ++ option_lines t (drop (i + 1) flags)
option_lines_from t flags i d less = rw (drop_more flags i d less) (search rules)
