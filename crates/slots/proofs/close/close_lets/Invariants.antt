-- `close_lets`: the statements from the k-th on are left.
use Rattle.pack.specs.Lists.{list_item}
use Rattle.slots.specs.Slots.{let_slot, close_lets}
use Rattle.slots.proofs.Steps.{ShutLeft}
use Rattle.slots.proofs.close.close_lets.Given as goal

abbrev pub invariant-loop-k : goal.invariant-loop-k
invariant-loop-k l = ShutLeft (λ j. let_slot l.pack l.c (list_item l.pack l.c l.list j)) l.k l.k-end l.slots (close_lets l.pack l.c l.list l.initial.slots)
