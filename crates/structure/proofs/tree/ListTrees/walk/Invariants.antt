-- `walk`: from the root to where the row's list stops.
use Prim.Native.Nat.{◌-◌}
use Rattle.structure.specs.Words.{look_at}
use Rattle.structure.specs.Tree.{Stopped, Forked}
use Rattle.structure.proofs.Walking.{Going}
use Rattle.structure.proofs.tree.ListTrees.walk.Given as goal

abbrev pub invariant-loop-l : goal.invariant-loop-l
invariant-loop-l l =
    Going (look_at l.look l.s) l.self.cells l.self.tests l.self.members.keys l.i l.k l.ahead.cell l.row
    × Stopped (look_at l.look l.s) l.self.cells l.self.tests l.ahead.cell l.ahead.other
    × Forked l.ahead.other

abbrev pub decreases-loop-l : goal.decreases-loop-l
decreases-loop-l l = l.i - l.row
