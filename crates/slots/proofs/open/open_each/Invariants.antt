-- `open_each`: the slots from the k-th on are left.
use Prim.Native.Nat.{◌+◌, ◌*◌}
use Rattle.pack.specs.Lists.{list_item}
use Rattle.structure.specs.Types.{code_in}
use Rattle.slots.specs.Slots.{open_each}
use Rattle.slots.proofs.Steps.{OpenLeft}
use Rattle.slots.proofs.open.open_each.Given as goal

abbrev pub invariant-loop-k : goal.invariant-loop-k
invariant-loop-k g l = OpenLeft (λ j. list_item l.pack l.c l.list (g.row.STEP * j)) (λ j. code_in l.pack l.c l.same (list_item l.pack l.c l.fields (g.row.STEP * j + g.row.FIRST))) l.k l.k-end l.slots (open_each g.row.STEP g.row.FIRST l.pack l.c l.same l.list l.fields l.initial.slots)
