use Rattle.std.proofs.Common.{arith}
use Rattle.blake2b_core.proofs.incremental.Blake2b.new.Goals as goal

-- a new state holds the empty message
pub returns-clause-holds : goal.returns-clause-holds
returns-clause-holds c = grind arith
