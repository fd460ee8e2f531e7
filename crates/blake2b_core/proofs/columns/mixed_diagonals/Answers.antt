use Rattle.blake2b_core.proofs.ColumnLemmas.{columns_of_rotated}
use Rattle.blake2b_core.proofs.columns.mixed_diagonals.Goals as goal

-- the rows are rotated, their columns mixed, and rotated back
pub returns : goal.returns
returns c = rw (c.rotated_row-6.ensures, c.rotated_row-7.ensures, c.rotated_row-8.ensures)
    (columns_of_rotated c.args.v c.mixed_columns.result c.args.x c.args.y
    (rw (
      c.rotated_row.ensures,
      c.rotated_row-2.ensures,
      c.rotated_row-3.ensures,
      c.rotated_row-4.ensures,
      c.rotated_row-5.ensures,
    ) at c.mixed_columns.ensures))
