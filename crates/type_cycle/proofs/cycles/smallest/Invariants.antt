use Rattle.type_cycle.proofs.OrderLaws.{Halves}
use Prim.Native.Nat.{◌-◌}
use Rattle.type_cycle.proofs.cycles.smallest.Given as goal

abbrev pub invariant-loop-low : goal.invariant-loop-low
invariant-loop-low l = Halves l.pack l.c l.low l.high

abbrev pub decreases-loop-low : goal.decreases-loop-low
decreases-loop-low l = l.high - l.low
