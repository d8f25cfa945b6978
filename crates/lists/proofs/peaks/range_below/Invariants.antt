use Prim.Native.Nat.{◌≤◌}
use Rattle.laws.specs.First.{all}
use Rattle.lists.proofs.PeakLaws.{below, Range}
use Rattle.lists.proofs.peaks.range_below.Given as goal

abbrev pub invariant-loop-l : goal.invariant-loop-l
invariant-loop-l l = (1 ≤ l.l) × (l.r ≤ l.initial.r) × Range l.cells l.limit l.l l.r (all (below l.cells l.limit) l.initial.l l.initial.r)

abbrev pub decreases-loop-l : goal.decreases-loop-l
decreases-loop-l l = l.r
