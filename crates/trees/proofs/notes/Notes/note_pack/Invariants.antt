use Rattle.trees.specs.Notes.{told}
use Rattle.trees.specs.Trees.{Noted}
use Rattle.trees.specs.Hops.{Hops}
use Rattle.trees.proofs.notes.Notes.note_pack.Given as goal

abbrev pub invariant-loop-i : goal.invariant-loop-i
invariant-loop-i l = Noted l.pack l.c l.i (told l.self) × Hops l.pack l.c l.self.uses l.self.hops
