-- No row below j has a list that looks the same.
use mathlib.Core.Path.{◌≡◌}
use mathlib.Core.Bool.{false}
use Prim.Native.Nat.{ℕ, ◌<◌}
use Rattle.structure.specs.Facts.{has_list}
use Rattle.structure.proofs.facts.row_with_list.Given as goal

abbrev pub invariant-loop-j : goal.invariant-loop-j
invariant-loop-j l = (k : ℕ) → k < l.j → has_list l.pack l.c l.same l.s k ≡ false
