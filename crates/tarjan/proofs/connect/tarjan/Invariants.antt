use Rattle.tarjan.proofs.Follows.{Running}
use Rattle.tarjan.proofs.connect.tarjan.Given as goal

abbrev pub invariant-loop-v : goal.invariant-loop-v
invariant-loop-v l = Running l.pack l.c l.search l.low l.v
