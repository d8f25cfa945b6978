use mathlib.Core.Path.{◌≡◌}
use Rattle.type_cycle.specs.Order.{Walled}
use Prim.Native.Nat.{◌≤◌, ◌-◌}
use Rattle.type_cycle.proofs.search.Search.wall.Given as goal

abbrev pub invariant-loop-at : goal.invariant-loop-at
invariant-loop-at l = (2048 ≤ l.at) × (l.at ≤ 2560) × Walled (l.at - 2048) l.self.marks × (l.self.skips ≡ l.initial.self.skips)
