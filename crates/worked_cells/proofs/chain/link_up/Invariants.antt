-- The cells stay loop-free.
use Rattle.unionfind.specs.Cells.{LoopFree}
use Rattle.worked_cells.proofs.chain.link_up.Given as goal

abbrev pub invariant-loop-k : goal.invariant-loop-k
invariant-loop-k l = LoopFree l.cells
