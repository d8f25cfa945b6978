use mathlib.Core.Bool.{not}
use Prim.Native.Nat.{◌*◌}
use lib.Dec.{eqb}
use Rattle.laws.proofs.First.{Left}
use Rattle.pack.specs.Lists.{list_item}
use Rattle.names.specs.Index.{next_item}
use Rattle.names.proofs.search.item_walked.Given as goal

abbrev pub invariant-loop-k : goal.invariant-loop-k
invariant-loop-k l = Left (λ m. not (eqb (list_item l.pack l.c l.s (2 * m)) l.name)) (λ m. m) l.n l.k l.n (next_item l.pack l.c l.s l.i l.n l.name)
