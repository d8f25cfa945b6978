-- The cells stay loop-free.
use Rattle.unionfind.specs.Cells.{LoopFree}
use Rattle.worked_cells.proofs.refusals.sets.Given as goal

abbrev pub invariant-loop-v : goal.invariant-loop-v
invariant-loop-v l = LoopFree l.cells
