use mathlib.Core.Path.{refl}
use Rattle.pack.specs.Rows.{type_row}
use Rattle.pack.proofs.rows.type_row.Goals as goal

pub returns : goal.returns
unfolding type_row
returns c = rw (← c.row_32-row.ensures) refl
