use Rattle.trees.proofs.NoteLaws.{note_single, note_then}
use Rattle.trees.proofs.notes.Notes.note_item.Goals as goal

pub returns-in-Items-clause-noted : goal.returns-in-Items-clause-noted
returns-in-Items-clause-noted c = rw c.in-Items.is (note_single _ _ c.list_item.ensures.same c.note.ensures.noted)

pub returns-in-Seconds-clause-noted : goal.returns-in-Seconds-clause-noted
returns-in-Seconds-clause-noted c = rw c.in-Seconds.is (note_single _ _ c.list_item-in-Seconds.ensures.same c.note-in-Seconds.ensures.noted)

pub returns-in-Arms-clause-noted : goal.returns-in-Arms-clause-noted
returns-in-Arms-clause-noted c = rw (c.in-Arms.is, ← c.list_item-in-Arms.ensures.same) (note_then _ _ _ c.note_optional.ensures.noted c.list_item-in-Arms-2.ensures.same c.note-in-Arms.ensures.noted)
