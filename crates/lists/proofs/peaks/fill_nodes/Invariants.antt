use Prim.Native.Nat.{◌≤◌}
use Rattle.lists.specs.Peaks.{leaves, Nodes}
use Rattle.lists.proofs.PeakLaws.{Kept}
use Rattle.lists.proofs.peaks.fill_nodes.Given as goal

abbrev pub invariant-loop-y : goal.invariant-loop-y
invariant-loop-y l = (1 ≤ l.y) × (l.y ≤ leaves l.fn.c) × Nodes (leaves l.fn.c) l.y l.cells × Kept (leaves l.fn.c) l.initial.cells l.cells
