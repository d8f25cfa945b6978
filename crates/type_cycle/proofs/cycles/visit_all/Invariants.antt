use Rattle.type_cycle.specs.Search.{state}
use Rattle.type_cycle.proofs.OrderLaws.{Leaving}
use Rattle.type_cycle.proofs.cycles.visit_all.Given as goal

abbrev pub invariant-loop-d : goal.invariant-loop-d
invariant-loop-d l = Leaving l.pack l.c l.d (state l.search)
