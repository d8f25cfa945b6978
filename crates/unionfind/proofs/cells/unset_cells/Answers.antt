use Rattle.unionfind.proofs.States.{unset_none, unset_more, unset_all}
use native.Mathlib.Omega.{arith}
use Rattle.unionfind.proofs.cells.unset_cells.Goals as goal

pub loop-i-init : goal.loop-i-init
loop-i-init c = unset_none c.requires

pub own_code-requires : goal.own_code-requires
own_code-requires c = omega (arith, c.loop-i.invariant.room)

pub offset_bounds-cells-i : goal.offset_bounds-cells-i
offset_bounds-cells-i c = omega (arith, c.loop-i.invariant.room)

pub bounds-cells-i : goal.bounds-cells-i
bounds-cells-i c = omega (arith, c.loop-i.invariant.room)

pub loop-i-preserved : goal.loop-i-preserved
loop-i-preserved c = unset_more c.loop-i.invariant c.loop-i-test.true c.own_code.ensures

pub returns : goal.returns
returns c = unset_all c.loop-i.invariant (omega (arith, c.loop-i-test.false))
