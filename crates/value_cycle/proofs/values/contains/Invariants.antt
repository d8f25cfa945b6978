use Rattle.value_cycle.proofs.Asks.{AskItems}
use Rattle.value_cycle.proofs.values.contains.Given as goal

abbrev pub invariant-loop-k : goal.invariant-loop-k
invariant-loop-k l = AskItems l.pack l.c l.s l.w l.k-end l.k
