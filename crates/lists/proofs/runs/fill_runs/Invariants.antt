use Rattle.lists.proofs.RunLaws.{Filled}
use Rattle.lists.proofs.runs.fill_runs.Given as goal

abbrev pub invariant-loop-k : goal.invariant-loop-k
invariant-loop-k l = Filled l.pack l.c l.limit l.k l.end l.ends
