use Rattle.unionfind.proofs.States.{Unsetting}
use Rattle.unionfind.proofs.cells.unset_cells.Given as goal

abbrev pub invariant-loop-i : goal.invariant-loop-i
invariant-loop-i l = Unsetting l.n l.cells l.i
