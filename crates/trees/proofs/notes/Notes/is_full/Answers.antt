use mathlib.Core.Path.{sym, ◌∙◌}
use borrow.Author.Tests.{le-leb}
use Rattle.trees.proofs.HopLaws.{full_read, full_out}
use Rattle.trees.proofs.notes.Notes.is_full.Goals as goal

pub returns-then-at-ge-CAPACITY : goal.returns-then-at-ge-CAPACITY
returns-then-at-ge-CAPACITY c = le-leb _ _ c.if-at-ge-CAPACITY.true ∙ sym (full_out _ _ c.if-at-ge-CAPACITY.true)

pub returns-else-at-ge-CAPACITY : goal.returns-else-at-ge-CAPACITY
returns-else-at-ge-CAPACITY c = full_read _ _ c.if-at-ge-CAPACITY.false
