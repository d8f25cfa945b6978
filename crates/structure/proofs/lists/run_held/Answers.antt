use mathlib.Core.Path.{sym, ap}
use native.Mathlib.Omega.{arith}
use Prim.Native.Nat.{ℕ, ◌%◌}
use lib.Dec.{eqb}
use Rattle.laws.proofs.Bounded.{get_in}
use Rattle.structure.specs.Words.{looks}
use Rattle.structure.proofs.Counting.{counts_on, counts_end}
use Rattle.structure.proofs.Spots.{steps}
use Rattle.structure.proofs.lists.run_held.Goals as goal

pub loop-m-preserved : goal.loop-m-preserved
loop-m-preserved g c =
    let h = steps g.row.STEP _ _ c.loop-m-test.true in
    counts_on c.loop-m.invariant c.loop-m-test.true _ (omega arith) (ap (λ (x : ℕ). eqb (x % 2) 0) (sym (get_in looks _ _ (omega (arith, h, c.requires.0)))))

pub returns : goal.returns
returns g c = counts_end c.loop-m.invariant (omega (arith, c.loop-m-test.false))
