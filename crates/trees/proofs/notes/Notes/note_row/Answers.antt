use Rattle.trees.specs.Notes.{note_all, note_row}
use mathlib.Core.Path.{ap, ◌∙◌}
use Rattle.trees.proofs.notes.Notes.note_row.Goals as goal

pub returns : goal.returns
returns c = unfold note_row in rw (← c.depth_below-depth.ensures) (record { is = c.note_operands.ensures.is ∙ ap (note_all _ _) c.note_statements.ensures.is; kept = c.note_operands.ensures.kept })
