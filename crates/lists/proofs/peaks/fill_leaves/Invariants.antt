use Prim.Native.Nat.{◌≤◌}
use Rattle.lists.specs.Peaks.{Tips}
use Rattle.lists.proofs.peaks.fill_leaves.Given as goal

abbrev pub invariant-loop-x : goal.invariant-loop-x
invariant-loop-x l = (l.x ≤ l.n) × Tips l.pack l.c l.x l.cells
