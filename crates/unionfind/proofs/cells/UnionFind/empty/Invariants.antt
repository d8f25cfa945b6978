use Prim.Native.Nat.{◌≤◌}
use Rattle.unionfind.specs.Cells.{capacity}
use Rattle.unionfind.proofs.States.{Filled}
use Rattle.unionfind.proofs.cells.UnionFind.empty.Given as goal

abbrev pub invariant-loop-i : goal.invariant-loop-i
invariant-loop-i l = (l.i ≤ capacity) × Filled l.cells l.i
