use Prim.Native.Nat.{◌≤◌}
use Rattle.lists.proofs.NameLaws.{Met}
use Rattle.lists.proofs.earlier.fill_earlier.Given as goal

abbrev pub invariant-loop-j : goal.invariant-loop-j
invariant-loop-j l = (l.j ≤ l.n) × Met l.pack l.c l.j l.marks l.places
