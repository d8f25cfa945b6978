use mathlib.Core.Path.{refl}
use Rattle.pack.specs.Rows.{expression_row}
use Rattle.pack.proofs.rows.expression_row.Goals as goal

pub returns : goal.returns
unfolding expression_row
returns c = rw (← c.expressions_at.ensures.same, ← c.row_64-row.ensures) refl
