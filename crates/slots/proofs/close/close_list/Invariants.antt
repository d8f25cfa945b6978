-- `close_list`: the slots from the k-th on are left.
use mathlib.Core.List.{[], ◌∷◌}
use Rattle.pack.specs.Lists.{list_item}
use Rattle.slots.specs.Slots.{close_list}
use Rattle.slots.proofs.Steps.{ShutLeft}
use Rattle.slots.proofs.close.close_list.Given as goal

abbrev pub invariant-loop-k : goal.invariant-loop-k
invariant-loop-k l = ShutLeft (λ j. list_item l.pack l.c l.list j ∷ []) l.k l.k-end l.slots (close_list l.pack l.c l.list l.initial.slots)
