use Rattle.std.proofs.Common.{[], inl, refl}
use Rattle.digest_kinds.specs.declared.algo.Algos.TheVariants.{Any}
use Rattle.sum_settings.specs.declared.style.Mode.TheVariants.{Tag}
use Rattle.sum_lines_tests.proofs.laws.relabelled_line_is_read.Goals as goal

-- what was read can be written again, and is read back
pub returns : goal.returns
returns c = λ algos f text found entry.
    let writable = c.entry_is_writable.ensures.writable algos f text found entry in
    let back = c.read_back.ensures.line Any Tag found.kind found.name found.digest [] [] refl writable (inl refl) in
    (back.prefix, back.whole, (back.spells found).1 refl)
