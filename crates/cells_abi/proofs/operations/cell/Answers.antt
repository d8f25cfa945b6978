-- A variable in use has a cell; another is 38.
use mathlib.Core.Path.{refl}
use Rattle.cells_abi.proofs.Stepping.{cell_step_lem, unknown_cell}
use Rattle.cells_abi.proofs.operations.cell.Goals as goal

pub returns-then-v-n : goal.returns-then-v-n
returns-then-v-n c = rw c.done.ensures (cell_step_lem c.requires _ c.if-v-n.true refl)

pub returns : goal.returns
returns c = rw c.refused.ensures (unknown_cell c.requires _ c.if-v-n.false)
