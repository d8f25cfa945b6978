-- The variables made so far are those in use.
use Rattle.unionfind.specs.Cells.{Live}
use Rattle.worked_cells.proofs.vars.fill.Given as goal

abbrev pub invariant-loop : goal.invariant-loop
invariant-loop l = Live l.n l.cells
