use Rattle.std.proofs.Common.{inr, refl}
use Rattle.sum_lines_tests.proofs.laws.tagged_is_undecided.Goals as goal

-- the line isn't plain
pub returns : goal.returns
returns c algos others line e kind digest raw tagged =
    inr (λ f plain_kind d tail plain. c.one_entry.ensures.shape _ _ _ _ _ _ _ _ _ _ _ plain tagged, refl)
