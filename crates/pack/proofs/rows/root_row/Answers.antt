use mathlib.Core.Path.{refl}
use Rattle.pack.specs.Rows.{root_row}
use Rattle.pack.proofs.rows.root_row.Goals as goal

pub returns : goal.returns
unfolding root_row
returns c = rw (← c.roots_at.ensures.same, ← c.row_64-row.ensures) refl
