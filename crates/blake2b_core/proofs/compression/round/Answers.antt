use Rattle.std.proofs.Common.{refl}
use Rattle.blake2b_core.specs.{Compression.round, private.Columns.columns, private.Columns.diagonals}
use Rattle.blake2b_core.specs.{private.Columns.schedule}
use Rattle.blake2b_core.proofs.compression.round.Goals as goal

-- the columns, and then the diagonals
pub returns : goal.returns
unfolding round columns diagonals schedule
returns c = rw (c.mixed_diagonals.ensures, c.mixed_columns-v.ensures, c.schedule-m.ensures) refl
