use mathlib.Core.Path.{refl}
use Rattle.pack.specs.Rows.{definition_row}
use Rattle.pack.proofs.rows.definition_row.Goals as goal

pub returns : goal.returns
unfolding definition_row
returns c = rw (← c.definitions_at.ensures.same, ← c.row_32-row.ensures) refl
