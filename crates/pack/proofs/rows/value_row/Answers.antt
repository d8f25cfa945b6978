use mathlib.Core.Path.{refl}
use Rattle.pack.specs.Rows.{value_row}
use Rattle.pack.proofs.rows.value_row.Goals as goal

pub returns : goal.returns
unfolding value_row
returns c = rw (← c.values_at.ensures.same, ← c.row_32-row.ensures) refl
