-- `pass_on`: from the first cell to this one.
use Prim.Native.Nat.{◌-◌}
use Rattle.structure.specs.Words.{look_at}
use Rattle.structure.specs.Tree.{cells_len}
use Rattle.structure.proofs.Walking.{Passes}
use Rattle.structure.proofs.tree.ListTrees.pass_on.Given as goal

abbrev pub invariant-loop-fork : goal.invariant-loop-fork
invariant-loop-fork l = Passes (look_at l.look l.s) l.self.cells l.self.tests l.from l.cell

abbrev pub decreases-loop-fork : goal.decreases-loop-fork
decreases-loop-fork l = cells_len - l.cell
