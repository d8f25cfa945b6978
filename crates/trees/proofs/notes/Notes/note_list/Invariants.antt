use Rattle.pack.specs.Lists.{list_len}
use Rattle.trees.specs.Notes.{told, kids_at}
use Rattle.trees.specs.Hops.{Hops}
use Rattle.trees.proofs.NoteLaws.{ListLeft}
use Prim.Native.Nat.{◌-◌}
use Rattle.trees.proofs.notes.Notes.note_list.Given as goal

abbrev pub invariant-loop-k : goal.invariant-loop-k
invariant-loop-k l =
    ListLeft (kids_at l.pack l.c l.kids l.s) l.k (list_len l.pack l.c l.s) l.place (told l.self) (told l.initial.self) × Hops l.pack l.c l.self.uses l.self.hops

abbrev pub decreases-loop-k : goal.decreases-loop-k
decreases-loop-k l = l.n - l.k
