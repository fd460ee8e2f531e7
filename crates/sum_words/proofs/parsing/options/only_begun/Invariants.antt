use Rattle.std.{proofs.Common.◌≡◌, proofs.Common.◌==◌, proofs.Common.◌&&◌, proofs.Common.List, proofs.Common.drop}
use Rattle.std.{proofs.Common.filter, specs.List.starts_with, specs.List.cons_option}
use Rattle.sum_words.specs.{declared.parsing.options.Flag.Flag, parsing.Options.full_name, parsing.Options.has_option}
use Rattle.sum_words.specs.{parsing.Options.only_or_fault}
use Rattle.sum_words.proofs.parsing.options.only_begun.Given as goal

-- the option found so far and the remaining ones give the same as all
abbrev pub invariant-loop-flag : goal.invariant-loop-flag
invariant-loop-flag l =
    let begun = λ (flags : List Flag).
    filter (λ flag. has_option l.tool flag && starts_with ◌==◌ (full_name flag) l.name) flags in
    only_or_fault l.name (begun l.flags)
    ≡ only_or_fault l.name (cons_option l.found (begun (drop l.flag-index l.flags)))
