use Rattle.pack.specs.Named.{row_statements, items_of}
use Rattle.trees.proofs.NoteLaws.{note_chosen, note_passed}
use Rattle.trees.proofs.HopLaws.{noting}
use mathlib.Core.Path.{refl}
use borrow.Author.Tests.{eq-eqb, ne_eqb}
use Rattle.trees.proofs.notes.Notes.note_statements.Goals as goal

pub returns-then-row : goal.returns-then-row
returns-then-row c = unfold row_statements items_of in record { is = note_chosen _ _ _ _ (eq-eqb _ _ c.if-row.true) c.note_list.ensures.is; kept = c.note_list.ensures.kept }

pub returns-else-row : goal.returns-else-row
returns-else-row c = unfold row_statements in noting _ _ _ c.requires (note_passed _ _ _ _ (ne_eqb _ _ c.if-row.false)) refl
