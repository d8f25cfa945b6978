-- No word of the runs before r names a marked type.
use mathlib.Core.Path.{◌≡◌}
use mathlib.Core.Bool.{true}
use Prim.Native.Nat.{ℕ, ◌+◌, ◌*◌, ◌%◌, ◌<◌}
use lib.Dec.{eqb}
use Rattle.laws.specs.Bounded.{get}
use Rattle.structure.specs.Words.{looks}
use Rattle.structure.proofs.lists.any_held.Given as goal

abbrev pub invariant-loop-r : goal.invariant-loop-r
invariant-loop-r g l = (k : ℕ) → k < 128 * l.r → k < l.n → eqb (get looks l.look (l.a + g.row.STEP * k) % 2) 0 ≡ true
