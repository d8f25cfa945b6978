use Rattle.value_cycle.proofs.Looped.{Looping}
use Rattle.value_cycle.proofs.recursive.first_looped.Given as goal

abbrev pub invariant-loop-d : goal.invariant-loop-d
invariant-loop-d l = Looping l.pack l.c l.d
