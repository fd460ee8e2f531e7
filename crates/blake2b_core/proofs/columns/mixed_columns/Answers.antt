use Rattle.std.proofs.Common.{arith}
use Rattle.blake2b_core.specs.{Compression.mix, private.Columns.columns}
use Rattle.blake2b_core.proofs.columns.mixed_columns.Goals as goal

-- each step of G, on all four columns at once
pub returns : goal.returns
unfolding mix columns
returns c = grind arith
