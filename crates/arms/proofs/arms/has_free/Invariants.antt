-- `has_free`: the arms of the name, one after the other.
use Prim.Native.Nat.{◌-◌}
use Rattle.arms.proofs.Covering.{FreeLeft}
use Rattle.arms.proofs.arms.has_free.Given as goal

abbrev pub invariant-loop-k : goal.invariant-loop-k
invariant-loop-k l = FreeLeft l.pack l.c l.arms l.name l.n l.k

abbrev pub decreases-loop-k : goal.decreases-loop-k
decreases-loop-k l = l.n - l.k
