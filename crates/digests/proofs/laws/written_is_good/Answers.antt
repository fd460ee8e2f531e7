use Rattle.std.proofs.Common.{[], ◌∷◌}
use Rattle.digests.proofs.WrittenIsGood.{written_is_good}
use Rattle.digests.proofs.laws.written_is_good.Goals as goal

-- what is written by one run
pub returns : goal.returns
returns c = record { accepted = λ g. written_is_good (g ∷ []) }
