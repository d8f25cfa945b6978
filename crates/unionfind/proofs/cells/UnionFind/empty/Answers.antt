use mathlib.Core.Path.{◌≡◌}
use Rattle.unionfind.specs.Cells.{capacity}
use Rattle.unionfind.proofs.States.{empties, filled_none, filled_more}
use native.Mathlib.Omega.{arith}
use Rattle.unionfind.proofs.cells.UnionFind.empty.Goals as goal

pub loop-i-init : goal.loop-i-init
loop-i-init c = (omega arith, filled_none)

pub loop-i-preserved : goal.loop-i-preserved
loop-i-preserved c = (omega arith, filled_more c.loop-i.invariant.1 (omega arith) c.own_code.ensures)

pub returns : goal.returns
returns c = let e : c.loop-i.i ≡ capacity = omega arith in empties (rw e at c.loop-i.invariant.1)
