-- Those from low on and below m, in the order in which they were left: none of the first i leads to itself.
use Rattle.type_cycle.proofs.OrderLaws.{Seeking}
use Rattle.type_cycle.proofs.cycles.seek.Given as goal

abbrev pub invariant-loop-i : goal.invariant-loop-i
invariant-loop-i l = Seeking l.pack l.c l.order.names l.low l.m l.i l.search.marks l.search.skips.cells
