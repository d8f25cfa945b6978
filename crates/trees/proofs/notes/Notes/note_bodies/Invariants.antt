use Rattle.pack.specs.Rows.{root_row}
use Rattle.trees.specs.Notes.{told}
use Rattle.trees.proofs.NoteLaws.{ListLeft}
use mathlib.Core.List.{[], ◌∷◌}
use mathlib.Core.Path.{◌≡◌}
use Rattle.trees.proofs.notes.Notes.note_bodies.Given as goal

abbrev pub invariant-loop-i : goal.invariant-loop-i
invariant-loop-i l = record { hops : l.self.hops ≡ l.initial.self.hops; left : ListLeft (λ r. (root_row l.pack l.c r).body ∷ []) l.i l.c.roots 2 (told l.self) (told l.initial.self) }
