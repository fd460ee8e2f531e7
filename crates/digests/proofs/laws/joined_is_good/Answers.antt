use Rattle.digests.proofs.WrittenIsGood.{written_is_good}
use Rattle.digests.proofs.laws.joined_is_good.Goals as goal

-- what several runs wrote, one after another
pub returns : goal.returns
returns c = record { accepted = written_is_good }
